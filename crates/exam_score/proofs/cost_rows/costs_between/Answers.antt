use Rattle.exam_score.specs.CostOrder.{spread_cost-small}
use Rattle.exam_score.proofs.CostLemmas.{capped_fits, one_fits}
use Rattle.exam_score.proofs.cost_rows.costs_between.Goals as goal

pub overflow_cast-result : goal.overflow_cast-result
overflow_cast-result c = capped_fits _ _ c.cost.ensures.capped

pub overflow_cast-result-2 : goal.overflow_cast-result-2
overflow_cast-result-2 c = capped_fits _ _ c.cost-2.ensures.capped

pub overflow_cast-result-3 : goal.overflow_cast-result-3
overflow_cast-result-3 c =
    one_fits _ _ c.cost-3.ensures
    (spread_cost-small c.args.instance.now.periods c.args.instance.now.weights c.args.other
    c.args.period)

pub returns : goal.returns
returns c = λ i. record {
  row = c.cost.ensures.case i;
  day = c.cost-2.ensures.case i;
  spread = c.cost-3.ensures i;
}
