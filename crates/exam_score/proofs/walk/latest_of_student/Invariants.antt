use Rattle.std.proofs.Common.{◌≡◌, ◌≤◌, ℕ, take, sum_by}
use Rattle.exam_score.specs.Tallies.{cost_with_tally}
use Rattle.exam_score.specs.TallyLinks.{IsOnWay}
use Rattle.exam_score.specs.declared.tallies.Tally.{Tally}
use Rattle.exam_score.proofs.walk.latest_of_student.Given as goal

-- the tallies that were passed are of other students
abbrev pub invariant-loop-other : goal.invariant-loop-other
invariant-loop-other l = record {
  within : l.next ≤ l.end;
  way : IsOnWay l.tallies l.next l.student;
  sums : (cost : ℕ → ℕ → ℕ) (y : Tally) → y.student ≡ l.student
      → sum_by (cost_with_tally cost y) (take l.end l.tallies)
      ≡ sum_by (cost_with_tally cost y) (take l.next l.tallies);
}

abbrev pub decreases-loop-other : goal.decreases-loop-other
decreases-loop-other l = l.next
