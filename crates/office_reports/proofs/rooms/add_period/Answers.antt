use Rattle.std.proofs.Common.{◌++◌, ◌∙◌, ap₂, string_bytes}
use Rattle.exam_lists.proofs.Ranges.{range_flat_map_more}
use Rattle.office_reports.specs.Rooms.{place}
use Rattle.office_reports.specs.Slots.{entry_line}
use Rattle.office_reports.proofs.rooms.add_period.Goals as goal

pub loop-room-preserved : goal.loop-room-preserved
loop-room-preserved c =
    let line = entry_line c.args.instance.now c.args.exams.now c.args.used.now in
    c.in_ok-add_place.ensures
    ∙ ap₂ (λ a r. a ++ line (place c.args.period r)) c.loop-room.invariant c.new-room.ensures
    ∙ range_flat_map_more (λ r. line (place c.args.period r)) (string_bytes c.args.text.now) c.loop-room.room
