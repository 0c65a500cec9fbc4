use Rattle.std.proofs.Common.{sym, ap, ◌∙◌}
use Rattle.exam_score.specs.Cost.{night_cost}
use Rattle.exam_score.proofs.ConflictCostLemmas.{free_conflicts}
use Rattle.exam_score.proofs.NightLemmas.{night_weightless}
use Rattle.exam_score.proofs.conflict_sums.nights_of_conflicts.Goals as goal

pub returns-then-weights-eq0 : goal.returns-then-weights-eq0
returns-then-weights-eq0 c =
    let I = c.args.instance.now in
    sym (free_conflicts (night_cost I.periods I.weights) c.args.timetable.now
    c.args.conflicts.now
    (night_weightless I.periods I.weights
    (ap (λ w. w.night) (sym c.weights.ensures.weights) ∙ c.if-weights-eq0.true)))
