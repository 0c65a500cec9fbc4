use Rattle.std.proofs.Common.{◌≡◌, ◌++◌, string_bytes}
use Rattle.std.specs.List.{flat_map, range_with_len}
use Rattle.office_reports.specs.Rooms.{place}
use Rattle.office_reports.specs.Slots.{entry_line}
use Rattle.office_reports.proofs.rooms.add_period.Given as goal

abbrev pub invariant-loop-room : goal.invariant-loop-room
invariant-loop-room l =
    string_bytes l.text
    ≡ string_bytes l.fn.text
    ++ flat_map (λ r. entry_line l.instance l.exams l.used (place l.period r))
    (range_with_len 0 l.room)
