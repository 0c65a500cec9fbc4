use Rattle.std.proofs.Common.{◌≡◌, ℕ, length, Some}
use Rattle.std.specs.Prelude.{slice_get}
use Rattle.exam_score.specs.CostRows.{IsCostRow, IsFirstCost}
use Rattle.exam_score.specs.declared.cost_rows.CostRow.{CostRow}
use Rattle.exam_score.proofs.cost_rows.table_of.Given as goal

abbrev pub invariant-loop-period : goal.invariant-loop-period
invariant-loop-period l = record {
  count : length l.cost_rows.items ≡ l.period;
  each : (p : ℕ) (cost_row : CostRow) → slice_get l.cost_rows.items p ≡ Some cost_row
      → IsCostRow l.instance p cost_row.costs.items;
  first : (p : ℕ) (cost_row : CostRow) → slice_get l.cost_rows.items p ≡ Some cost_row
      → IsFirstCost l.instance p cost_row.first;
}
