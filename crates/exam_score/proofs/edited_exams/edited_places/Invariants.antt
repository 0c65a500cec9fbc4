use Rattle.std.proofs.Common.{◌≡◌, ◌+◌, length}
use Rattle.exam_model.specs.Timetable.{place_of}
use Rattle.exam_score.specs.Touched.{sum_over_exams}
use Rattle.exam_score.specs.Track.{exam_period, exam_room}
use Rattle.exam_score.proofs.edited_exams.edited_places.Given as goal

-- what is counted and the share of the exams that are left add up to the whole
abbrev pub invariant-loop-exam : goal.invariant-loop-exam
invariant-loop-exam l = record {
  periods : l.sums.periods + sum_over_exams l.instance l.left
      (λ e. exam_period l.instance (place_of l.timetable e))
      ≡ sum_over_exams l.instance l.edited
      (λ e. exam_period l.instance (place_of l.timetable e));
  rooms : l.sums.rooms + sum_over_exams l.instance l.left
      (λ e. exam_room l.instance (place_of l.timetable e))
      ≡ sum_over_exams l.instance l.edited (λ e. exam_room l.instance (place_of l.timetable e));
}

abbrev pub decreases-loop-exam : goal.decreases-loop-exam
decreases-loop-exam l = length l.left
