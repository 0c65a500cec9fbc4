use Rattle.std.proofs.Common.{◌≡◌, map, take}
use Rattle.std.specs.Prelude.{All}
use Rattle.office_tables.specs.Tables.ShareStudent.{AreStudentAmounts}
use Rattle.office_records.specs.SharesStored.{student_share_row}
use Rattle.office_records.proofs.student_shares.student_share_rows.Given as goal

abbrev pub invariant-shares : goal.invariant-shares
invariant-shares l = record {
  rows : l.rows.items ≡ map student_share_row (take l.share-index l.students);
  amounts : All AreStudentAmounts l.rows.items;
}
