use Rattle.std.proofs.Common.{ap}
use Rattle.std.proofs.lemmas.List.{take_all}
use Rattle.std.specs.List.{flat_map}
use Rattle.office_check.specs.Why.{mixed_line}
use Rattle.exam_lists.proofs.Results.{OnErr_any}
use Rattle.office_check.proofs.WhyFacts.{adds_line, adds_next, adds_text, adds_then, front_among, front_before, front_of_room}
use Rattle.office_check.proofs.explaining.add_mixed.Goals as goal

-- one more line
pub loop-reason-preserved : goal.loop-reason-preserved
loop-reason-preserved g c =
    adds_next mixed_line c.args.mixed.now c.loop-reason.reason-index c.reason-item.result _ _ _ _ _ _
    c.loop-reason-test.true c.reason-item.is c.loop-reason.invariant
    (adds_then _ _ _ _ _ _ _ _ c.in_ok-make_room.ensures.ok
    (adds_line _ _ _ _ c.in_ok-add_mixed_line.ensures))

-- all lines
pub returns-clause-ok : goal.returns-clause-ok
returns-clause-ok g c =
    adds_text _ _ _ _ _ _
    (ap (flat_map mixed_line)
    (take_all c.loop-reason.reason-index c.args.mixed.now c.loop-reason-test.false))
    c.loop-reason.invariant

-- a front of the lines of all reasons
pub returns-in_err-make_room-clause-err : goal.returns-in_err-make_room-clause-err
returns-in_err-make_room-clause-err g c =
    OnErr_any _ (front_among mixed_line c.args.mixed.now c.loop-reason.reason-index
    c.reason-item.result _ _ _ _ _ c.loop-reason-test.true c.reason-item.is c.loop-reason.invariant
    (front_before _ _ _ _ c.in_err-make_room.ensures.err))

pub returns-in_err-add_mixed_line-clause-err : goal.returns-in_err-add_mixed_line-clause-err
returns-in_err-add_mixed_line-clause-err g c =
    OnErr_any _ (front_among mixed_line c.args.mixed.now c.loop-reason.reason-index
    c.reason-item.result _ _ _ _ _ c.loop-reason-test.true c.reason-item.is c.loop-reason.invariant
    (front_of_room _ _ _ _ _ c.in_ok-make_room.ensures.ok))
