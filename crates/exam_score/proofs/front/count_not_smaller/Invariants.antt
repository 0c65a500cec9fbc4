use Rattle.std.proofs.Common.{◌≡◌, ◌≤◌, count_by, take}
use Rattle.std.specs.Prelude.{nat_le}
use Rattle.exam_score.proofs.front.count_not_smaller.Given as goal

abbrev pub invariant-loop-other : goal.invariant-loop-other
invariant-loop-other l = record {
  count : l.count ≡ count_by (λ x. nat_le l.size x) (take l.other-index l.sizes);
  small : l.count ≤ l.other-index;
}
