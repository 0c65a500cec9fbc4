use Rattle.std.proofs.Common.{take}
use Rattle.office_reports.specs.Rooms.{seats_in}
use Rattle.office_reports.specs.Slots.{IsTable}
use Rattle.office_reports.proofs.slots.seats_by_slot.Given as goal

abbrev pub invariant-seats : goal.invariant-seats
invariant-seats l = IsTable l.instance 0 (seats_in (take l.seat-index l.seats)) l.counts.items
