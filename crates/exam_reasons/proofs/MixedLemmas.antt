-- A room and period has at most as many durations as exams.
use Rattle.std.proofs.Common.{◌≡◌, ◌<◌, ◌≤◌, ℕ, zero, suc, ◌-◌, ◌&&◌, ◌∙◌, Bool, None, add-one, ap, arith, cond, false, length, not, sym, true}
use Rattle.std.specs.Prelude.{nat_lt, slice_get}
use Rattle.exam_lists.proofs.Booleans.{cond_one_le}
use Rattle.exam_model.specs.Instance.{IsInstance, Session}
use Rattle.exam_model.specs.Sums.{count_below}
use Rattle.exam_model.specs.Timetable.{Placing, place_of}
use Rattle.exam_score.specs.MixedDurations.{duration_count, durations, has_duration, is_at, minutes_of}
use Rattle.exam_score.proofs.TouchedLemmas.{durations_more, durations_none, minutes_short}
use Rattle.exam_reasons.specs.Mixed.{exams_below}
use Rattle.exam_reasons.specs.Reasons.{mixed_reason}

both_le : (a b : Bool) → ◌≤◌ (cond (a && b) 1 0) (cond a 1 0)
both_le true true = omega arith
both_le true false = omega arith
both_le false b = omega arith

-- of the exams below n
few_below : (I : Session) (T : Placing) (p r n : ℕ) → IsInstance I
    → count_below duration_count (λ m. nat_lt 0 (count_below n (has_duration I T p r m)))
    ≤ exams_below T p r n
few_below I T p r zero known = omega (arith, durations_none I T p r)
few_below I T p r (suc n) known =
    let more = ap (λ k. count_below duration_count
    (λ m. nat_lt 0 (count_below k (has_duration I T p r m)))) (sym (add-one n))
    ∙ durations_more I T p r n (minutes_short I n known) in
    omega (
      arith,
      few_below I T p r n known,
      more,
      both_le (is_at p r (place_of T n))
          (not (nat_lt 0 (count_below n (has_duration I T p r (minutes_of (slice_get I.exams n)))))),
    )

-- one exam at most costs nothing
pub few_cost_nothing : (I : Session) (T : Placing) (p r n : ℕ) → IsInstance I
    → length T ≡ length I.exams → n ≡ exams_below T p r (length T) → n < 2
    → None ≡ mixed_reason I T r p
few_cost_nothing I T p r n known same is few =
    let small : durations I T p r ≤ 1 =
    omega (
      arith,
      few_below I T p r (length I.exams) known,
      is,
      few,
      ap (exams_below T p r) same,
    ) in
    let none : durations I T p r - 1 ≡ 0 = omega arith in
    rw none (grind arith)

-- ---- the exams of a period

-- there are at most as many as exams
pub few_exams : (T : Placing) (p r n : ℕ) → exams_below T p r n ≤ n
few_exams T p r zero = omega arith
few_exams T p r (suc n) =
    omega (arith, few_exams T p r n, cond_one_le (is_at p r (place_of T n)))
