use Rattle.std.proofs.Common.{count_by, length-append, ◌≡◌, ◌<◌, ◌≤◌, ◌+◌, ℕ, Some, None, length, ◌∙◌, sym, ap, arith, All, ◌++◌, ◌∷◌, []}
use Rattle.std.specs.Prelude.{slice_get}
use Rattle.exam_model.specs.Timetable.{place_of}
use Rattle.std.proofs.lemmas.List.Elements.{All-push}
use Rattle.exam_model.specs.Sums.{count_below}
use Rattle.exam_score.specs.MixedDurations.{has_duration}
use Rattle.exam_score.specs.Stays.{StayExists, is_stay}
use Rattle.exam_score.specs.declared.mixed.PlacedDuration.{PlacedDuration}
use Rattle.exam_score.proofs.MixedLemmas.{counts_more_some, counts_more_none, stay_exists}
use Rattle.exam_score.proofs.mixed.stays_of.Goals as goal
use Rattle.exam_score.proofs.mixed.stays_of.Goals.{in-Some+in_ok-push, in_default}

pub loop-exam-preserved : goal.loop-exam-preserved
loop-exam-preserved c =
    let I = c.args.instance.now in
    let T = c.args.timetable.now in
    let e = c.loop-exam.exam in
    elim c.match-get.branch [
      | in-Some+in_ok-push w ↦
          (let at = w.in-Some.place in
          let placed : place_of T e ≡ Some at =
          ap (place_of T) (sym c.new-exam.ensures) ∙ sym w.in-Some.ensures in
          let is : slice_get I.exams e ≡ Some w.exam.result =
          ap (slice_get I.exams) (sym c.new-exam.ensures) ∙ w.exam.ensures in
          let within : e < length T =
          omega (arith, c.exams-exam-end.ensures.count, c.requires.fits.exams) in
          let stay : PlacedDuration =
          record { period = at.period; room = at.room; minutes = w.exam.result.minutes } in
          let items : c.match-get.stays.items ≡ c.loop-exam.stays.items ++ stay ∷ [] =
          ap (λ v. v.items) w.stays-is ∙ w.in_ok-push.ensures.items in
          let more : record { counts : (p r m : ℕ) → count_by (is_stay p r m) (c.loop-exam.stays.items ++ stay ∷ []) ≡ count_below (e + 1) (has_duration I T p r m); few : length (c.loop-exam.stays.items ++ stay ∷ []) ≤ e + 1; exist : All (StayExists I) (c.loop-exam.stays.items ++ stay ∷ []) }
          = record {
            counts = counts_more_some I T e c.loop-exam.stays.items at w.exam.result placed is
                c.loop-exam.invariant.counts;
            few = omega (arith, length-append c.loop-exam.stays.items (stay ∷ []));
            exist = All-push (StayExists I) c.loop-exam.stays.items stay c.loop-exam.invariant.exist
                (stay_exists I T e at w.exam.result c.exams-exam-end.ensures.kept c.requires.fits
                within placed is);
          } in
          rw items more)
      | in_default w ↦
          (let unplaced : place_of T e ≡ None = ap (place_of T) (sym c.new-exam.ensures)
          ∙ sym c.get.ensures ∙ w.in_default.is in
          rw w.stays-is (record {
            counts = counts_more_none I T e c.loop-exam.stays.items unplaced
                c.loop-exam.invariant.counts;
            few = omega arith;
            exist = c.loop-exam.invariant.exist;
          }))
    ]
