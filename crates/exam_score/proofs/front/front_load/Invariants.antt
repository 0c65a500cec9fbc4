use Rattle.std.proofs.Common.{◌≡◌, ◌≤◌, ◌*◌}
use Rattle.exam_model.specs.Sums.{sum_below}
use Rattle.exam_score.specs.Front.{AreTies}
use Rattle.exam_score.specs.FrontLoad.{exam_front}
use Rattle.exam_score.proofs.front.front_load.Given as goal

-- the share of the exams before this one, and a bound on it
abbrev pub invariant-loop-exam : goal.invariant-loop-exam
invariant-loop-exam l = record {
  total : l.total ≡ sum_below l.exam (exam_front l.instance l.enrolments l.timetable);
  small : l.total ≤ l.exam * 100000;
  tied : AreTies l.sizes.items l.bar l.ties l.exam;
}
