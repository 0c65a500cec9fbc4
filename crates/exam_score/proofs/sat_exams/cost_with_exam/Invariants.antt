use Rattle.std.proofs.Common.{◌≡◌, ◌≤◌, ◌*◌, take, sum_by}
use Rattle.exam_score.specs.EditedCosts.{cost_at}
use Rattle.exam_score.proofs.sat_exams.cost_with_exam.Given as goal

-- the cost of the exams seen so far, and a bound on it
abbrev pub invariant-loop-other : goal.invariant-loop-other
invariant-loop-other g l = record {
  sum : l.total ≡ sum_by (cost_at (g.C.PairCost.cost_of l.cost) l.timetable l.edited l.exam)
      (take l.other-index l.others);
  small : l.total ≤ l.other-index * 100000;
}
