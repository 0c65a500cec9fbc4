use Rattle.std.proofs.Common.{arith, ap, ◌∙◌}
use Rattle.exam_model.specs.Enrolments.{students}
use Rattle.std.proofs.Common.{set}
use Rattle.exam_reasons.specs.Students.{own_students}
use Rattle.exam_reasons.proofs.StudentLemmas.{are_own, own_more, own_whole}
use Rattle.exam_reasons.proofs.students.own_enrolments.Goals as goal

-- one more exam
pub loop-exam-preserved : goal.loop-exam-preserved
loop-exam-preserved c =
    let s = c.args.student in
    let E = c.args.enrolments.now in
    c.in_ok-add_own.ensures
    ∙ ap (λ e. set c.loop-exam.own e (own_students s (students E e))) c.new-in-loop-exam.ensures
    ∙ own_more s E c.loop-exam.own c.loop-exam.exam
    (omega (arith, c.loop-exam-test.true, c.exams-exam-end.ensures.count)) c.loop-exam.invariant

-- all exams
pub returns-clause-own : goal.returns-clause-own
returns-clause-own c =
    let s = c.args.student in
    let E = c.args.enrolments.now in
    are_own E c.loop-exam.own s c.exams.ensures.kept
    (own_whole s E c.loop-exam.own c.loop-exam.exam
    (omega (arith, c.loop-exam-test.false, c.exams-exam-end.ensures.count)) c.loop-exam.invariant)
