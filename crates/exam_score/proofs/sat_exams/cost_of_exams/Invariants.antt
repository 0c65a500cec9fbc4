use Rattle.std.proofs.Common.{◌≡◌, ◌≤◌, ◌*◌, take, sum_by}
use Rattle.exam_score.proofs.EditedLemmas.{edited_beside}
use Rattle.exam_score.proofs.sat_exams.cost_of_exams.Given as goal

-- the cost with all exams of the edited ones seen so far, and a bound on it
abbrev pub invariant-loop-exam : goal.invariant-loop-exam
invariant-loop-exam g l = record {
  sum : l.total ≡ sum_by (edited_beside (g.C.PairCost.cost_of l.cost) l.timetable l.edited l.exams)
      (take l.exam-index l.exams);
  small : l.total ≤ l.exam-index * 20000000000;
}
