use Rattle.std.proofs.Common.{length, take}
use Rattle.office_records.proofs.OwnerRowLemmas.{AreNamed}
use Rattle.office_records.proofs.owners.check_owners.Given as goal

abbrev pub invariant-loop-row : goal.invariant-loop-row
invariant-loop-row l =
    AreNamed (length l.instance.exams) (take l.row-index l.rows) l.departments.items
