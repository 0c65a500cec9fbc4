use Rattle.std.proofs.Common.{◌++◌, ◌∙◌, ap, sym, length, string_bytes}
use Rattle.std.specs.Prelude.{slice_get}
use Rattle.exam_lists.proofs.Maps.{flat_map_take_more}
use Rattle.office_files.specs.CanonicalLines.{line_of, room_text}
use Rattle.office_files.specs.CanonicalText.{header_text}
use Rattle.office_files.specs.Spelled.{rooms_heading}
use Rattle.office_files.proofs.instance_writer.add_rooms.Goals as goal

pub loop-number-preserved : goal.loop-number-preserved
loop-number-preserved c =
    flat_map_take_more (λ x. line_of (room_text x))
    (string_bytes c.args.text.now
    ++ line_of (header_text rooms_heading (length c.args.instance.now.rooms)))
    (string_bytes c.loop-number.text) _ c.args.instance.now.rooms c.loop-number.number
    c.room-room.result
    (ap (slice_get c.args.instance.now.rooms) (sym c.new.ensures) ∙ c.room-room.ensures)
    c.loop-number.invariant c.in_ok-add_pair.ensures
