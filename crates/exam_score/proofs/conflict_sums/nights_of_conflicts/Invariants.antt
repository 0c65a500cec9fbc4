use Rattle.std.proofs.Common.{◌≡◌, take}
use Rattle.exam_score.specs.ConflictCosts.{conflicts_cost}
use Rattle.exam_score.specs.Cost.{night_cost}
use Rattle.exam_score.proofs.conflict_sums.nights_of_conflicts.Given as goal

-- the cost of the conflicts so far
abbrev pub invariant-loop-conflict : goal.invariant-loop-conflict
invariant-loop-conflict l =
    l.total ≡ conflicts_cost (night_cost l.instance.periods l.instance.weights) l.timetable
    (take l.conflict-index l.conflicts)
