use Rattle.std.proofs.Common.{codes}
use Rattle.exam_reasons.specs.Reasons.{period_reason}
use Rattle.office_check.specs.Why.{place_line}
use Rattle.exam_lists.proofs.Results.{OnErr_any}
use Rattle.office_check.proofs.WhyFacts.{adds_listed, adds_unlisted, front_before, front_of_room}
use Rattle.office_check.proofs.explaining.add_period.Goals as goal

-- the line of the reason
pub returns-in_ok-add_place_line-in-Some-clause-ok : goal.returns-in_ok-add_place_line-in-Some-clause-ok
returns-in_ok-add_place_line-in-Some-clause-ok g c =
    adds_listed (place_line (codes "period"))
    (period_reason c.args.subject.now.instance.now c.args.subject.now.timetable.now c.args.period)
    c.period_reason.result c.in-Some.reason _ _ _ _ _ c.period_reason.ensures c.in-Some.is
    c.in_ok-make_room-in-Some.ensures.ok c.in_ok-add_place_line-in-Some.ensures

-- there is none
pub returns-in-None-clause-ok : goal.returns-in-None-clause-ok
returns-in-None-clause-ok g c =
    adds_unlisted (place_line (codes "period"))
    (period_reason c.args.subject.now.instance.now c.args.subject.now.timetable.now c.args.period)
    c.period_reason.result _ _ c.period_reason.ensures c.in-None.is

-- a front of the lines in the buffer, or all of them
pub returns-in_err-make_room-in-Some-clause-err : goal.returns-in_err-make_room-in-Some-clause-err
returns-in_err-make_room-in-Some-clause-err g c =
    OnErr_any _ (front_before _ _ _ _ c.in_err-make_room-in-Some.ensures.err)

pub returns-in_err-add_place_line-in-Some-clause-err : goal.returns-in_err-add_place_line-in-Some-clause-err
returns-in_err-add_place_line-in-Some-clause-err g c =
    OnErr_any _ (front_of_room _ _ _ _ _ c.in_ok-make_room-in-Some.ensures.ok)
