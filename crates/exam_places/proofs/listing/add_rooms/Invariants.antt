use Rattle.std.proofs.Common.{◌≡◌, ◌++◌, map}
use Rattle.std.specs.List.{range_with_len}
use Rattle.exam_places.specs.Unplaced.{row_by}
use Rattle.exam_places.proofs.listing.add_rooms.Given as goal

abbrev pub invariant-loop-room : goal.invariant-loop-room
invariant-loop-room l =
    l.rows.items
    ≡ l.fn.rows.items ++ map (row_by l.unplaced l.facts.total l.period) (range_with_len 0 l.room)
