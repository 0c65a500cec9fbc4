use Rattle.exam_reasons.specs.Lists.{listed}
use Rattle.exam_reasons.specs.Reasons.{front_reason}
use Rattle.office_check.specs.Why.{front_line}
use Rattle.exam_lists.proofs.Results.{OnErr_any}
use Rattle.office_check.proofs.WhyFacts.{adds_more, front_below}
use Rattle.office_check.proofs.explaining.add_front.Goals as goal

-- one more exam
pub loop-exam-preserved : goal.loop-exam-preserved
loop-exam-preserved g c =
    adds_more front_line
    (λ e. listed (front_reason c.args.subject.now.instance.now c.args.subject.now.enrolments.now
    c.args.subject.now.timetable.now e))
    c.loop-exam.exam c.new.result _ _ _ _ _ _ c.new.ensures c.loop-exam.invariant
    c.in_ok-add_front_of.ensures.ok

-- a front of the lines of all exams
pub returns-in_err-add_front_of-clause-err : goal.returns-in_err-add_front_of-clause-err
returns-in_err-add_front_of-clause-err g c =
    OnErr_any _ (front_below front_line
    (λ e. listed (front_reason c.args.subject.now.instance.now c.args.subject.now.enrolments.now
    c.args.subject.now.timetable.now e))
    c.loop-exam.exam c.new.result _ _ _ _ _ _ _ c.new.ensures c.exams-exam-end.ensures.count
    c.loop-exam-test.true c.loop-exam.invariant c.in_err-add_front_of.ensures.err)
