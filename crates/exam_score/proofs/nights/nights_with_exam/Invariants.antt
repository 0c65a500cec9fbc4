use Rattle.std.proofs.Common.{◌≡◌, ◌+◌, sum_by, take}
use Rattle.exam_score.specs.Cost.{night_cost}
use Rattle.exam_score.specs.Tallies.{cost_with_tally}
use Rattle.exam_score.specs.TallyLinks.{IsOnWay}
use Rattle.exam_score.proofs.nights.nights_with_exam.Given as goal

-- the sum and the rest of the bucket add up to the whole
abbrev pub invariant-loop-other : goal.invariant-loop-other
invariant-loop-other l = record {
  way : IsOnWay l.tallies l.next l.tally.student;
  night : l.total + sum_by
      (cost_with_tally (night_cost l.instance.periods l.instance.weights) l.tally)
      (take l.next l.tallies)
      ≡ sum_by (cost_with_tally (night_cost l.instance.periods l.instance.weights) l.tally)
      (take l.at l.tallies);
}

abbrev pub decreases-loop-other : goal.decreases-loop-other
decreases-loop-other l = l.next
