use Rattle.std.proofs.Common.{◌≡◌, ◌≤◌, ◌*◌, take, sum_by}
use Rattle.exam_score.proofs.candidate.cost_with_exam.Given as goal

-- the cost of the exams seen so far, and a bound on it
abbrev pub invariant-loop-other : goal.invariant-loop-other
invariant-loop-other g l = record {
  sum : l.total ≡ sum_by (g.C.PairCost.cost_of l.cost l.period) (take l.other-index l.others);
  small : l.total ≤ l.other-index * 100000;
}
