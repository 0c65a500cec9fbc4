use Rattle.std.proofs.Common.{◌≡◌, take}
use Rattle.office_records.specs.PartShares.{room_rows}
use Rattle.office_records.proofs.part_shares.room_shares.Given as goal

abbrev pub invariant-rows : goal.invariant-rows
invariant-rows l = room_rows 0 l.shares.items ≡ take l.at l.rows
