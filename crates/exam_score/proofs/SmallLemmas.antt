-- No penalty is near the limit of its total.
use Rattle.std.proofs.Common.{◌≡◌, ℕ, zero, suc, ◌-◌, ◌*◌, ◌^◌, ◌<◌, ◌≤◌, Bool, true, false, cond, List, [], ◌∷◌, length, Option, None, Some, refl, arith, rules}
use Rattle.std.specs.Prelude.{slice_get, ◌&&◌}
use Rattle.std.specs.List.{AllByRecursion}
use Rattle.std.proofs.Math.Nat.{mul-le-mul}
use Rattle.std.proofs.lemmas.List.Elements.{recursion_from_All}
use Rattle.exam_lists.proofs.Booleans.{cond_one_le, cond_le}
use Rattle.exam_model.specs.Enrolments.{Enrolled, AreEnrolments}
use Rattle.exam_model.specs.Fits.{Fits, period_of}
use Rattle.exam_model.specs.Instance.{Session, IsInstance}
use Rattle.exam_model.specs.Limits.{PeriodInLimits, RoomInLimits}
use Rattle.exam_model.specs.Sums.{count_below}
use Rattle.exam_model.specs.Timetable.{Placing, place_of}
use Rattle.exam_model.specs.declared.parts.Period.{Period}
use Rattle.exam_model.specs.declared.parts.Room.{Room}
use Rattle.exam_terms.specs.declared.place.Place.{Place}
use Rattle.exam_model.proofs.SumLemmas.{sum_below-le}
use Rattle.exam_score.specs.Kinds.{Kind, cost_in}
use Rattle.exam_score.specs.Regrouping.{pair_part}
use Rattle.exam_score.specs.Touched.{mixed_cost_if, room_mixed_cost_if}
use Rattle.exam_score.specs.Penalty.{total_of}
use Rattle.exam_score.specs.Track.{period_penalty, room_penalty, exam_period, exam_room, track}
use Rattle.exam_score.specs.FrontLoad.{is_largest, is_late, exam_front}
use Rattle.exam_score.specs.MixedDurations.{duration_count, durations}
use Rattle.exam_score.proofs.CostLemmas.{cost_in-small}
use Rattle.exam_score.proofs.KindLemmas.{each_kind}
use Rattle.exam_score.proofs.PairsLemmas.{part_small}

of_period : (xs : List Period) → AllByRecursion PeriodInLimits xs → (i : ℕ)
    → period_penalty (slice_get xs i) ≤ 100000
of_period [] h i = omega arith
of_period (x ∷ xs) h zero = h.0.5
of_period (x ∷ xs) h (suc i) = of_period xs h.1 i

of_room : (xs : List Room) → AllByRecursion RoomInLimits xs → (i : ℕ)
    → room_penalty (slice_get xs i) ≤ 100000
of_room [] h i = omega arith
of_room (x ∷ xs) h zero = h.0.1
of_room (x ∷ xs) h (suc i) = of_room xs h.1 i

pub period_small : (I : Session) → IsInstance I → (o : Option Place) → exam_period I o ≤ 100000
period_small I known None = omega arith
period_small I known (Some at) =
    of_period I.periods (recursion_from_All PeriodInLimits I.periods known.limits.periods) at.period

pub room_small : (I : Session) → IsInstance I → (o : Option Place) → exam_room I o ≤ 100000
room_small I known None = omega arith
room_small I known (Some at) =
    of_room I.rooms (recursion_from_All RoomInLimits I.rooms known.limits.rooms) at.room

most_durations : duration_count ≡ 1441
unfolding duration_count
most_durations = refl

counted_few : (n : ℕ) (test : ℕ → Bool) → count_below n test ≤ n
counted_few n test =
    let all = sum_below-le (λ m. cond (test m) 1 0) 1 n (λ m lt. cond_one_le (test m)) in
    omega arith

durations_small : (I : Session) (T : Placing) (p r : ℕ) → durations I T p r ≤ 1441
durations_small I T p r = search (rules, counted_few, most_durations)

-- the mixed part of the periods and rooms that pass
pub mixed_where_small : (I : Session) (T : Placing) (touched : ℕ → ℕ → Bool) → IsInstance I
    → mixed_cost_if I T touched ≤ 5764000000000
mixed_where_small I T touched known =
    let one : (p r : ℕ) → (durations I T p r - 1) * I.weights.mixed ≤ 144100000
    = λ p r. mul-le-mul (let h = durations_small I T p r in
    let k : durations I T p r - 1 ≤ 1441 = omega arith in k) known.limits.weights.3 in
    let periods : length I.periods ≤ 200 = known.limits.counts.1.1 in
    let rooms : length I.rooms ≤ 200 = known.limits.counts.2.1 in
    let by_period : (r : ℕ) → room_mixed_cost_if I T touched r ≤ 28820000000
    = λ r. (let all = sum_below-le
    (λ p. cond (touched p r) ((durations I T p r - 1) * I.weights.mixed) 0) 144100000
    (length I.periods) (λ p lt. or_none (touched p r) _ (one p r)) in
    omega arith) in
    let all = sum_below-le (room_mixed_cost_if I T touched) 28820000000 (length I.rooms)
    (λ r lt. by_period r) in
    omega arith
  where
    or_none : (b : Bool) (n : ℕ) → n ≤ 144100000 → cond b n 0 ≤ 144100000
    or_none true n h = h
    or_none false n h = omega arith

pub penalty_small : (I : Session) (E : Enrolled) (T : Placing) → IsInstance I → AreEnrolments E
    → Fits I E T → total_of (track I E T) < 2 ^ 62
penalty_small I E T known enrolled fits =
    let part : (k : Kind) → pair_part (cost_in I k) E (period_of T) ≤ 4000000000000000
    = λ k. part_small (cost_in I k) E T enrolled (cost_in-small I known k) in
    let pairs = each_kind part in
    let mixed = mixed_where_small I T (λ p r. true) known in
    let exams : length I.exams ≤ 2000 = known.limits.counts.0.1 in
    let front = sum_below-le (exam_front I E T) 100000 (length I.exams)
    (λ e lt. cond_le (is_largest I E e && is_late I (place_of T e)) I.weights.front 100000
    known.limits.weights.6) in
    let period =
    sum_below-le (λ e. exam_period I (place_of T e)) 100000 (length I.exams)
    (λ e lt. period_small I known (place_of T e)) in
    let room = sum_below-le (λ e. exam_room I (place_of T e)) 100000 (length I.exams)
    (λ e lt. room_small I known (place_of T e)) in
    omega arith
