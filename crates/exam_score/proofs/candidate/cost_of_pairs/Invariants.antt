use Rattle.std.proofs.Common.{◌≡◌, ◌≤◌, ◌+◌, ◌*◌, length}
use Rattle.exam_score.specs.Regrouping.{candidate_cost}
use Rattle.exam_score.proofs.candidate.cost_of_pairs.Given as goal

-- the counted part and the rest add up to the whole, and the rest is no longer than the list
abbrev pub invariant-loop-period : goal.invariant-loop-period
invariant-loop-period g l = record {
  whole : l.total + candidate_cost (g.C.PairCost.cost_of l.cost) l.rest
      ≡ candidate_cost (g.C.PairCost.cost_of l.cost) l.periods;
  shorter : length l.rest ≤ length l.periods;
  bounded : l.total + 200000000 * length l.rest ≤ 200000000 * length l.periods;
}

abbrev pub decreases-loop-period : goal.decreases-loop-period
decreases-loop-period g l = length l.rest
