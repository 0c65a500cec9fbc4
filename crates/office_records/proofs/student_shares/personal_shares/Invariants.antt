use Rattle.std.proofs.Common.{◌≡◌, map, take}
use Rattle.office_records.specs.SharesStored.{student_share_row}
use Rattle.office_records.proofs.student_shares.personal_shares.Given as goal

abbrev pub invariant-rows : goal.invariant-rows
invariant-rows l = map student_share_row l.shares.items ≡ take l.row-index l.rows
