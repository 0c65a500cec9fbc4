use Rattle.std.proofs.Common.{length}
use Rattle.exam_publish.proofs.GivingLemmas.{AreGiven}
use Rattle.exam_publish.proofs.seating.seat_all.Given as goal

abbrev pub invariant-entrants : goal.invariant-entrants
invariant-entrants l =
    AreGiven l.entrants (length l.instance.periods)
    (length l.instance.rooms) l.entrant-index l.last.items l.rows.items
