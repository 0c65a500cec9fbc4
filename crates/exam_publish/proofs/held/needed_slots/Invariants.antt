use Rattle.std.proofs.Common.{length}
use Rattle.exam_publish.specs.Seating.{AreNeeded}
use Rattle.exam_publish.proofs.held.needed_slots.Given as goal

abbrev pub invariant-entrants : goal.invariant-entrants
invariant-entrants l =
    AreNeeded (length l.instance.periods) (length l.instance.rooms) l.entrants l.entrant-index
    l.needed.items
