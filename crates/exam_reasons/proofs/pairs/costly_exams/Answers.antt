use Rattle.std.proofs.Common.{◌++◌, ◌∙◌, ap, filter}
use Rattle.exam_model.specs.Conflicts.{conflicts_with}
use Rattle.exam_reasons.specs.Pairs.{is_costly}
use Rattle.exam_reasons.proofs.PairLemmas.{below_more}
use Rattle.exam_reasons.proofs.pairs.costly_exams.Goals as goal

-- one more exam
pub loop-other-preserved : goal.loop-other-preserved
loop-other-preserved c =
    let I = c.args.instance.now in
    let E = c.args.enrolments.now in
    let T = c.args.timetable.now in
    below_more I E T c.loop-other.other _ _ c.loop-other.invariant
    (c.in_ok-add_costly.ensures ∙ ap (λ f. c.loop-other.pairs.items ++ filter (is_costly I T)
    (conflicts_with E f f)) c.new.ensures)
