use Rattle.std.proofs.Common.{length, take}
use Rattle.office_records.proofs.EnrolRowLemmas.{AreTaken}
use Rattle.office_records.proofs.enrolments.enrolments_of.Given as goal

abbrev pub invariant-loop-row : goal.invariant-loop-row
invariant-loop-row l =
    AreTaken (length l.instance.exams) (take l.row-index l.rows) l.enrolments
