use Rattle.exam_score.specs.Cost.{night_cost}
use Rattle.exam_score.proofs.WalkLemmas.{IsCostTo}
use Rattle.exam_score.proofs.nights.nights_of_pairs.Given as goal

abbrev pub invariant-loop-at : goal.invariant-loop-at
invariant-loop-at l =
    IsCostTo (night_cost l.instance.periods l.instance.weights) l.tallies l.at l.total
