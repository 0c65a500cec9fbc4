use Rattle.std.proofs.Common.{◌≡◌, ℕ, ◌+◌, ◌<◌, ◌≤◌, Some}
use Rattle.std.specs.Prelude.{slice_get}
use Rattle.exam_score.specs.declared.cost_rows.CostRow.{CostRow}
use Rattle.exam_score.proofs.conflict_sums.reach_of.Given as goal

-- the periods so far reach no farther back
abbrev pub invariant-loop-period : goal.invariant-loop-period
invariant-loop-period l = (p : ℕ) (cost_row : CostRow) → p < l.period
    → slice_get l.cost_rows p ≡ Some cost_row → p ≤ cost_row.first + l.reach
