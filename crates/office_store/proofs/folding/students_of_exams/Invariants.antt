use Rattle.std.proofs.Common.{◌≡◌, take}
use Rattle.std.specs.List.{flat_map}
use Rattle.exam_model.specs.Enrolments.{students}
use Rattle.office_store.proofs.folding.students_of_exams.Given as goal

-- the students of the exams so far
abbrev pub invariant-loop-exam : goal.invariant-loop-exam
invariant-loop-exam l =
    l.found.items ≡ flat_map (students l.enrolments) (take l.exam-index l.exams)
