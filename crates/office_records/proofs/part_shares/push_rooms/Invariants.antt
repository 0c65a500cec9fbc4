use Rattle.std.proofs.Common.{◌≡◌, ◌++◌, take}
use Rattle.office_records.specs.PartShares.{room_rows}
use Rattle.office_records.proofs.part_shares.push_rooms.Given as goal

abbrev pub invariant-shares : goal.invariant-shares
invariant-shares l = l.rows.items ≡ l.initial.rows.items ++ room_rows 0 (take l.at l.shares)
