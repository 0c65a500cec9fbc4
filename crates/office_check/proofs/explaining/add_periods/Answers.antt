use Rattle.std.proofs.Common.{codes}
use Rattle.exam_reasons.specs.Lists.{listed}
use Rattle.exam_reasons.specs.Reasons.{period_reason}
use Rattle.office_check.specs.Why.{place_line}
use Rattle.exam_lists.proofs.Results.{OnErr_any}
use Rattle.office_check.proofs.WhyFacts.{adds_more, front_below}
use Rattle.office_check.proofs.explaining.add_periods.Goals as goal

-- one more period
pub loop-period-preserved : goal.loop-period-preserved
loop-period-preserved g c =
    adds_more (place_line (codes "period"))
    (λ p. listed (period_reason c.args.subject.now.instance.now c.args.subject.now.timetable.now p))
    c.loop-period.period c.new.result _ _ _ _ _ _ c.new.ensures c.loop-period.invariant
    c.in_ok-add_period.ensures.ok

-- a front of the lines of all periods
pub returns-in_err-add_period-clause-err : goal.returns-in_err-add_period-clause-err
returns-in_err-add_period-clause-err g c =
    OnErr_any _ (front_below (place_line (codes "period"))
    (λ p. listed (period_reason c.args.subject.now.instance.now c.args.subject.now.timetable.now p))
    c.loop-period.period c.new.result _ _ _ _ _ _ _ c.new.ensures c.periods-period-end.ensures.count
    c.loop-period-test.true c.loop-period.invariant c.in_err-add_period.ensures.err)
