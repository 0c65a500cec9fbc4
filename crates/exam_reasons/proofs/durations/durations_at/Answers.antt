use Rattle.std.proofs.Common.{◌≡◌, ◌≤◌, ℕ, true, false, ◌∙◌, sym, ap, ap₂, subst, ◌+◌, cond, not, ◌&&◌, arith, add-zero, length, length-set, get_or, set}
use Rattle.std.proofs.lemmas.List.{get_or-replicate, length-replicate}
use Rattle.exam_model.specs.Sums.{count_below}
use Rattle.exam_model.specs.Timetable.{place_of}
use Rattle.exam_score.specs.MixedDurations.{duration_count, is_at, has_duration, minutes_of}
use Rattle.std.specs.Prelude.{nat_lt, slice_get}
use Rattle.exam_lists.proofs.Booleans.{cond_not, count_new_le}
use Rattle.exam_score.proofs.TouchedLemmas.{durations_more, durations_none, marked_here, marked_elsewhere, minutes_short}
use Rattle.exam_reasons.proofs.durations.durations_at.Goals as goal
use Rattle.exam_reasons.proofs.durations.durations_at.Goals.{then-is_in_place, else-is_in_place}

pub loop-exam-init : goal.loop-exam-init
unfolding duration_count
loop-exam-init c = record {
  long = length-replicate 1441 false;
  marked = λ m lt. get_or-replicate 1441 m false false lt;
  count = sym (durations_none c.args.instance.now c.args.timetable.now c.args.place.now.period
      c.args.place.now.room);
  small = omega arith;
}

pub mark-count-requires : goal.mark-count-requires
unfolding duration_count
mark-count-requires c =
    let I = c.args.instance.now in
    let e = c.loop-exam.exam in
    let is : minutes_of (slice_get I.exams e) ≡ c.exam.result.minutes
    = ap (λ e. minutes_of (slice_get I.exams e)) (sym c.new-exam.ensures)
    ∙ ap minutes_of c.exam.ensures in
    record { within = omega (arith, minutes_short I e c.exams-exam-end.ensures.kept) }

pub loop-exam-preserved : goal.loop-exam-preserved
loop-exam-preserved c =
    let I = c.args.instance.now in
    let T = c.args.timetable.now in
    let p = c.args.place.now.period in
    let r = c.args.place.now.room in
    let e = c.loop-exam.exam in
    let before = c.loop-exam.marked in
    let k = minutes_of (slice_get I.exams e) in
    let short = minutes_short I e c.exams-exam-end.ensures.kept in
    let at_place = ap (λ e. is_at p r (place_of T e)) (sym c.new-exam.ensures)
    ∙ sym c.is_in_place.ensures in
    let known = c.loop-exam.invariant.marked k short in
    elim c.if-is_in_place.branch [
      | then-is_in_place w ↦
          (let here : is_at p r (place_of T e) ≡ true = at_place ∙ w.if-is_in_place.true in
          let is : w.exam.result.minutes ≡ k
          = sym (ap (λ e. minutes_of (slice_get I.exams e)) (sym c.new-exam.ensures)
          ∙ ap minutes_of w.exam.ensures) in
          let marked : c.if-is_in_place.marked ≡ set before k true
          = w.marked-is ∙ w.mark-count.ensures.marked ∙ ap (λ k. set before k true) is in
          let more : w.mark-count.result
          ≡ cond (is_at p r (place_of T e) && not (nat_lt 0 (count_below e (has_duration I T p r k))))
          1 0
          = w.mark-count.ensures.fresh ∙ ap (λ k. cond (get_or before k false) 0 1) is
          ∙ cond_not (get_or before k false)
          ∙ ap₂ (λ a b. cond (a && not b) 1 0) (sym here) known in
          record {
            long = ap length marked ∙ length-set before k true ∙ c.loop-exam.invariant.long;
            marked = λ m lt.
                ap (λ v. get_or v m false) marked
                ∙ marked_here I T p r e m before
                (omega (arith, short, c.loop-exam.invariant.long)) here
                (c.loop-exam.invariant.marked m lt);
            count = w.count-is ∙ ap₂ (λ a b. a + b) c.loop-exam.invariant.count more
                ∙ sym (durations_more I T p r e short);
            small = subst (λ n. n ≤ e + 1) (sym w.count-is)
                (count_new_le _ _ c.loop-exam.count w.mark-count.result e more
                c.loop-exam.invariant.small);
          })
      | else-is_in_place w ↦
          (let here : is_at p r (place_of T e) ≡ false = at_place ∙ w.if-is_in_place.false in
          let more : ◌≡◌ {A = ℕ} 0
          (cond (is_at p r (place_of T e) && not (nat_lt 0 (count_below e (has_duration I T p r k)))) 1
          0)
          = ap (λ a. cond (a && not (nat_lt 0 (count_below e (has_duration I T p r k)))) 1 0) (sym here) in
          record {
            long = ap length w.marked-is ∙ c.loop-exam.invariant.long;
            marked = λ m lt.
                ap (λ v. get_or v m false) w.marked-is
                ∙ marked_elsewhere I T p r e m before here (c.loop-exam.invariant.marked m lt);
            count = w.count-is ∙ sym (add-zero c.loop-exam.count)
                ∙ ap₂ (λ a b. a + b) c.loop-exam.invariant.count more
                ∙ sym (durations_more I T p r e short);
            small = omega arith;
          })
    ]
