use Rattle.std.proofs.Common.{◌≡◌, length}
use Rattle.exam_score.specs.Penalty.{penalty_sum}
use Rattle.exam_score.specs.Rescoring.{students_penalty}
use Rattle.exam_score.proofs.rescoring.students_penalty.Given as goal

-- the sum so far and the penalties of the rest add up to the whole
abbrev pub invariant-loop-student : goal.invariant-loop-student
invariant-loop-student l =
    penalty_sum l.sum (students_penalty l.instance l.enrolments l.timetable l.rest)
    ≡ students_penalty l.instance l.enrolments l.timetable l.students

abbrev pub decreases-loop-student : goal.decreases-loop-student
decreases-loop-student l = length l.rest
