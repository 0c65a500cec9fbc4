use Rattle.std.proofs.Common.{◌∙◌, ap, filter}
use Rattle.exam_model.specs.Conflicts.{conflict_if}
use Rattle.exam_model.specs.Enrolments.{shared_students}
use Rattle.exam_reasons.specs.Pairs.{is_costly}
use Rattle.std.proofs.Common.{◌++◌}
use Rattle.exam_reasons.proofs.PairLemmas.{with_more}
use Rattle.exam_reasons.proofs.pairs.add_costly.Goals as goal

-- one more exam
pub loop-exam-preserved : goal.loop-exam-preserved
loop-exam-preserved c =
    let I = c.args.instance.now in
    let E = c.args.enrolments.now in
    let T = c.args.timetable.now in
    let f = c.args.other in
    with_more I E T f c.loop-exam.exam _ _ _ c.loop-exam.invariant
    (c.in_ok-add_pair.ensures ∙ ap (λ e. c.loop-exam.pairs.items ++ filter (is_costly I T)
    (conflict_if e f (shared_students E e f))) c.new.ensures)
