use Rattle.std.proofs.Common.{◌≡◌, map}
use Rattle.std.specs.List.{range_with_len}
use Rattle.exam_publish.specs.Shares.{room_share}
use Rattle.exam_publish.proofs.place_shares.room_shares.Given as goal

-- the rooms so far
abbrev pub invariant-rooms : goal.invariant-rooms
invariant-rooms l =
    l.shares.items ≡ map (room_share l.instance l.timetable) (range_with_len 0 l.room)
