use Rattle.std.proofs.Common.{◌≡◌, ◌≤◌, ◌+◌, ◌-◌, ◌*◌, length}
use Rattle.std.specs.Prelude.{slice_index}
use Rattle.exam_model.specs.Sums.{sum_below}
use Rattle.exam_publish.proofs.durations.mixed_in.Given as goal

-- the periods so far
abbrev pub invariant-periods : goal.invariant-periods
invariant-periods l = record {
  total : l.total
      ≡ sum_below l.period
      (λ p. (slice_index l.kinds
      (p * length l.instance.rooms + l.room) - 1) * l.instance.weights.mixed);
  small : l.total ≤ l.period * 200000000;
}
