use Rattle.std.proofs.Common.{◌≡◌, ◌++◌, map, take}
use Rattle.office_records.specs.Publications.{stored_seat}
use Rattle.office_records.proofs.seats.push_seats.Given as goal

abbrev pub invariant-rows : goal.invariant-rows
invariant-rows l =
    l.stored.items ≡ l.initial.stored.items ++ map stored_seat (take l.row-index l.rows)
