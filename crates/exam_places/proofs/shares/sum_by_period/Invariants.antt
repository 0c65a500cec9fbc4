use Rattle.std.proofs.Common.{◌≡◌, ◌*◌, ◌≤◌}
use Rattle.exam_model.specs.Sums.{sum_below}
use Rattle.exam_places.specs.PeriodTable.{shared_in}
use Rattle.exam_places.proofs.shares.sum_by_period.Given as goal

-- the cost with the exams of the periods before this one, and a bound on it
abbrev pub invariant-loop-number : goal.invariant-loop-number
invariant-loop-number g l = record {
  sum : l.total ≡ sum_below l.number (λ q. shared_in l.table q
      * g.C.PairCost.cost_of l.cost l.period q);
  small : l.total ≤ l.number * 40000000000000;
}
