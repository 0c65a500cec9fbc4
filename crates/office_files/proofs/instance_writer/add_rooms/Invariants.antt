use Rattle.std.proofs.Common.{◌≡◌, ◌++◌, length, string_bytes, take}
use Rattle.std.specs.List.{flat_map}
use Rattle.office_files.specs.CanonicalLines.{line_of, room_text}
use Rattle.office_files.specs.CanonicalText.{header_text}
use Rattle.office_files.specs.Spelled.{rooms_heading}
use Rattle.office_files.proofs.instance_writer.add_rooms.Given as goal

abbrev pub invariant-loop-number : goal.invariant-loop-number
invariant-loop-number l =
    string_bytes l.text
    ≡ string_bytes l.fn.text ++ line_of (header_text rooms_heading (length l.instance.rooms))
    ++ flat_map (λ x. line_of (room_text x)) (take l.number l.instance.rooms)
