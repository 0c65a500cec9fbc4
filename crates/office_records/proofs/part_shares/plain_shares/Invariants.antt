use Rattle.std.proofs.Common.{◌≡◌, take}
use Rattle.office_records.specs.PartShares.{part_kind_number, plain_rows}
use Rattle.office_records.proofs.part_shares.plain_shares.Given as goal

abbrev pub invariant-rows : goal.invariant-rows
invariant-rows l = plain_rows (part_kind_number l.kind) 0 l.shares.items ≡ take l.at l.rows
