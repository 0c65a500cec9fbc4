use Rattle.std.proofs.Common.{◌≡◌, ◌<◌, ℕ, length, Some}
use Rattle.std.specs.Prelude.{slice_get}
use Rattle.exam_score.specs.CostRows.{costs_of}
use Rattle.exam_score.proofs.cost_rows.cost_row_of.Given as goal

abbrev pub invariant-loop-other : goal.invariant-loop-other
invariant-loop-other l = record {
  count : length l.cost_row.items ≡ l.other;
  each : (q : ℕ) → q < length l.cost_row.items
      → slice_get l.cost_row.items q ≡ Some (costs_of l.instance l.period q);
}
