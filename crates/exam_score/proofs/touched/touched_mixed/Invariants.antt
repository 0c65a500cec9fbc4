use Rattle.std.proofs.Common.{◌≡◌, ◌+◌, length}
use Rattle.exam_score.specs.Touched.{is_touched, mixed_cost_if}
use Rattle.exam_score.proofs.touched.touched_mixed.Given as goal

-- the counted part and the share of the exams that are left add up to the whole
abbrev pub invariant-loop-exam : goal.invariant-loop-exam
invariant-loop-exam l =
    l.total + mixed_cost_if l.instance l.timetable
    (is_touched l.left l.touched.earlier.now l.touched.later.now)
    ≡ mixed_cost_if l.instance l.timetable
    (is_touched l.touched.edited.now l.touched.earlier.now l.touched.later.now)

abbrev pub decreases-loop-exam : goal.decreases-loop-exam
decreases-loop-exam l = length l.left
