use Rattle.std.proofs.Common.{◌≡◌, ◌-◌, ◌++◌, [], length, take}
use Rattle.std.specs.Prelude.{replicate}
use Rattle.exam_reasons.specs.Students.{own_enrolments}
use Rattle.exam_reasons.proofs.students.own_enrolments.Given as goal

-- the exams so far have the student, the others nobody
abbrev pub invariant-loop-exam : goal.invariant-loop-exam
invariant-loop-exam l =
    l.own ≡ own_enrolments l.student (take l.exam l.enrolments)
    ++ replicate (length l.enrolments - l.exam) []
