use Rattle.std.proofs.Common.{◌≡◌, map, take}
use Rattle.office_records.specs.Publications.{stored_seat}
use Rattle.office_records.proofs.seats.own_seats.Given as goal

abbrev pub invariant-rows : goal.invariant-rows
invariant-rows l = map stored_seat l.seats.items ≡ take l.row-index l.rows
