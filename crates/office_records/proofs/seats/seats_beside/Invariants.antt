use Rattle.std.proofs.Common.{◌+◌, length}
use Rattle.office_records.proofs.SeatDifferenceLemmas.{IsPicked}
use Rattle.office_records.proofs.seats.seats_beside.Given as goal

abbrev pub invariant-walk : goal.invariant-walk
invariant-walk l = IsPicked l.rows l.others l.left l.right l.stored.items

abbrev pub decreases-walk : goal.decreases-walk
decreases-walk l = length l.left + length l.right
