use Rattle.exam_score.specs.CostRows.{IsFree}
use Rattle.exam_score.proofs.cost_rows.first_cost.Given as goal

abbrev pub invariant-loop-other : goal.invariant-loop-other
invariant-loop-other l = IsFree l.instance l.period l.other
