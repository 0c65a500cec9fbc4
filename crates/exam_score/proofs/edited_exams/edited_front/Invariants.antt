use Rattle.std.proofs.Common.{◌≡◌, ◌+◌, length}
use Rattle.exam_model.specs.Timetable.{place_of}
use Rattle.exam_score.specs.Front.{front_by}
use Rattle.exam_score.specs.Touched.{sum_over_exams}
use Rattle.exam_score.proofs.edited_exams.edited_front.Given as goal

-- what is counted and the share of the exams that are left add up to the whole
abbrev pub invariant-loop-exam : goal.invariant-loop-exam
invariant-loop-exam l =
    l.total + sum_over_exams l.instance l.left
    (λ e. front_by l.instance l.sizes (place_of l.timetable e) e)
    ≡ sum_over_exams l.instance l.edited
    (λ e. front_by l.instance l.sizes (place_of l.timetable e) e)

abbrev pub decreases-loop-exam : goal.decreases-loop-exam
decreases-loop-exam l = length l.left
