-- The costs of pairs of periods as a table: a cost row for each period, up to itself.
use Rattle.std.specs.Prelude.{◌≡◌, ◌≢◌, ℕ, ◌+◌, ◌<◌, ◌≤◌, List, length, Some, slice_get}
use Rattle.exam_model.specs.Instance.{Session}
use Rattle.exam_score.specs.Kinds.{by_table, table_cost}
use Rattle.exam_score.specs.declared.amounts.Amounts.{Amounts}
use Rattle.exam_score.specs.declared.cost_rows.CostRow.{CostRow}

-- the cost of two periods, for row, day and spread
abbrev pub costs_of : Session → ℕ → ℕ → Amounts ℕ
costs_of I p q = by_table (λ k. table_cost I k q p)

-- the costs of a period with each period up to itself
pub record IsCostRow (I : Session) (p : ℕ) (cost_row : List (Amounts ℕ)) : Type 0 where
  pub count : length cost_row ≡ p + 1
  pub each : (q : ℕ) → q < length cost_row → slice_get cost_row q ≡ Some (costs_of I p q)

-- no period below n costs anything with period p
pub record IsFree (I : Session) (p n : ℕ) : Type 0 where
  pub each : (q : ℕ) → q < n → costs_of I p q ≡ by_table (λ k. 0)

-- of the periods up to p, period n is the first that costs anything with p; n is p + 1 if none does
pub record IsFirstCost (I : Session) (p n : ℕ) : Type 0 where
  pub free : IsFree I p n
  pub within : n ≤ p + 1
  pub costs : n ≤ p → costs_of I p n ≢ by_table (λ k. 0)

-- a cost row for each period, and the first period that costs anything with it
pub record IsTable (I : Session) (cost_rows : List CostRow) : Type 0 where
  pub count : length cost_rows ≡ length I.periods
  pub each : (p : ℕ) (cost_row : CostRow) → slice_get cost_rows p ≡ Some cost_row
      → IsCostRow I p cost_row.costs.items
  pub first : (p : ℕ) (cost_row : CostRow) → slice_get cost_rows p ≡ Some cost_row
      → IsFirstCost I p cost_row.first
