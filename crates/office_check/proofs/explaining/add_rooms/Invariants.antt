use Rattle.std.proofs.Common.{codes, string_bytes}
use Rattle.std.specs.List.{flat_map}
use Rattle.exam_reasons.specs.Lists.{all_below, listed}
use Rattle.exam_reasons.specs.Reasons.{room_reason}
use Rattle.office_check.specs.Why.{Adds, place_line}
use Rattle.office_check.proofs.explaining.add_rooms.Given as goal

-- the lines so far
abbrev pub invariant-loop-room : goal.invariant-loop-room
invariant-loop-room g l =
    Adds (g.W.Write.contents l.fn.writer) (g.W.Write.contents l.writer)
    (string_bytes l.fn.lines) (string_bytes l.lines)
    (flat_map (place_line (codes "room")) (all_below l.room (λ r. listed (room_reason
    l.subject.instance.now l.subject.timetable.now r))))
