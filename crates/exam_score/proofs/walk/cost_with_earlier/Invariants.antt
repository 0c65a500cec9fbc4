use Rattle.std.proofs.Common.{◌≡◌, ◌≤◌, ◌<◌, ◌+◌, ◌-◌, sum_by, take, get_or}
use Rattle.exam_score.specs.Kinds.{TableKind, table_amount, table_cost}
use Rattle.exam_score.specs.Tallies.{cost_with_tally}
use Rattle.exam_score.specs.declared.tallies.Tally.{Tally}
use Rattle.exam_score.proofs.walk.cost_with_earlier.Given as goal

-- the sums and the rest of the tallies add up to the whole
abbrev pub invariant-loop-next : goal.invariant-loop-next
invariant-loop-next l = record {
  within : l.next ≤ l.end;
  own : (d : Tally) → 0 < l.next → (get_or l.tallies (l.next - 1) d).student ≡ l.tally.student;
  sums : (k : TableKind) → table_amount l.sums k
      + sum_by (cost_with_tally (table_cost l.instance k) l.tally) (take l.next l.tallies)
      ≡ sum_by (cost_with_tally (table_cost l.instance k) l.tally) (take l.end l.tallies);
}

abbrev pub decreases-loop-next : goal.decreases-loop-next
decreases-loop-next l = l.next
