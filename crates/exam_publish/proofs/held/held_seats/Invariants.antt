use Rattle.std.proofs.Common.{◌≡◌, length, take}
use Rattle.exam_publish.proofs.HeldLemmas.{held_rows}
use Rattle.exam_publish.proofs.held.held_seats.Given as goal

-- the needed seats that the entrants so far keep
abbrev pub invariant-entrants : goal.invariant-entrants
invariant-entrants l =
    l.held.items
    ≡ held_rows l.needed.items (length l.instance.rooms) (take l.entrant-index l.entrants)
