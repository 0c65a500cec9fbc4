use Rattle.std.proofs.Common.{codes}
use Rattle.exam_reasons.specs.Lists.{listed}
use Rattle.exam_reasons.specs.Reasons.{room_reason}
use Rattle.office_check.specs.Why.{place_line}
use Rattle.exam_lists.proofs.Results.{OnErr_any}
use Rattle.office_check.proofs.WhyFacts.{adds_more, front_below}
use Rattle.office_check.proofs.explaining.add_rooms.Goals as goal

-- one more room
pub loop-room-preserved : goal.loop-room-preserved
loop-room-preserved g c =
    adds_more (place_line (codes "room"))
    (λ r. listed (room_reason c.args.subject.now.instance.now c.args.subject.now.timetable.now r))
    c.loop-room.room c.new.result _ _ _ _ _ _ c.new.ensures c.loop-room.invariant
    c.in_ok-add_room.ensures.ok

-- a front of the lines of all rooms
pub returns-in_err-add_room-clause-err : goal.returns-in_err-add_room-clause-err
returns-in_err-add_room-clause-err g c =
    OnErr_any _ (front_below (place_line (codes "room"))
    (λ r. listed (room_reason c.args.subject.now.instance.now c.args.subject.now.timetable.now r))
    c.loop-room.room c.new.result _ _ _ _ _ _ _ c.new.ensures c.rooms-room-end.ensures.count
    c.loop-room-test.true c.loop-room.invariant c.in_err-add_room.ensures.err)
