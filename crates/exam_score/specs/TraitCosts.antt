-- The four costs of two periods as costs of the trait, capped at 100,000. The cap only matters for
-- values that no instance has: every weight of an instance is at most 100,000.
use Rattle.std.specs.Prelude.{ℕ, min}
use Rattle.exam_terms.specs.declared.limits.TheConstants.{MAX_AMOUNT}
use Rattle.exam_score.specs.Cost.{row_cost, day_cost, spread_cost, night_cost}
use Rattle.exam_score.specs.declared.pair_costs.RowCost.{RowCost}
use Rattle.exam_score.specs.declared.pair_costs.DayCost.{DayCost}
use Rattle.exam_score.specs.declared.pair_costs.SpreadCost.{SpreadCost}
use Rattle.exam_score.specs.declared.pair_costs.NightCost.{NightCost}

-- the cost of two exams in a row, by the periods and the weight of the instance
abbrev pub row_cost_of : RowCost → ℕ → ℕ → ℕ
row_cost_of c p q = min (row_cost c.0.now.periods c.0.now.weights p q) MAX_AMOUNT

-- the cost of two exams in a day, by the periods and the weight of the instance
abbrev pub day_cost_of : DayCost → ℕ → ℕ → ℕ
day_cost_of c p q = min (day_cost c.0.now.periods c.0.now.weights p q) MAX_AMOUNT

-- the cost of two exams within the spread: at most 1, so it needs no cap
abbrev pub spread_cost_of : SpreadCost → ℕ → ℕ → ℕ
spread_cost_of c p q = spread_cost c.0.now.periods c.0.now.weights p q

-- the cost of two exams over night, by the periods and the weight of the instance
abbrev pub night_cost_of : NightCost → ℕ → ℕ → ℕ
night_cost_of c p q = min (night_cost c.0.now.periods c.0.now.weights p q) MAX_AMOUNT
