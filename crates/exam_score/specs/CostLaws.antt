-- The four costs (row, day, spread and night) satisfy the laws of the trait.
use Rattle.std.specs.Prelude.{ℕ, min}
use Rattle.std.proofs.Common.{ap, arith}
use Rattle.exam_terms.specs.declared.limits.TheConstants.{MAX_AMOUNT}
use Rattle.exam_model.specs.Instance.{Session}
use Rattle.exam_model.specs.PairCost.{CostLaws}
use Rattle.exam_score.specs.CostOrder.{kind_cost-swap, kind_cost-none, spread_cost-small}
use Rattle.exam_score.specs.Kinds.{in_row, in_day, in_spread, Kind, in_table, over_night, cost_in}
use Rattle.exam_score.specs.TraitCosts.{row_cost_of, day_cost_of, spread_cost_of, night_cost_of}

-- a capped cost
capped_laws : {C : Type 0} (session : C → Session) (k : Kind)
    → CostLaws (λ (c : C) (p q : ℕ). min (cost_in (session c) k p q) MAX_AMOUNT)
capped_laws session k = record {
  symmetric = λ c p q. ap (λ n. min n MAX_AMOUNT)
      (kind_cost-swap (session c).periods (session c).weights k p q);
  zero_on_equal = λ c p. ap (λ n. min n MAX_AMOUNT)
      (kind_cost-none (session c).periods (session c).weights k p);
  small = λ c p q. omega arith;
}

-- two in a row
pub row_laws : CostLaws row_cost_of
row_laws = capped_laws (λ c. c.0.now) (in_table in_row)

-- two in a day
pub day_laws : CostLaws day_cost_of
day_laws = capped_laws (λ c. c.0.now) (in_table in_day)

-- within the spread
pub spread_laws : CostLaws spread_cost_of
spread_laws = record {
  symmetric = λ c p q. kind_cost-swap c.0.now.periods c.0.now.weights (in_table in_spread) p q;
  zero_on_equal = λ c p. kind_cost-none c.0.now.periods c.0.now.weights (in_table in_spread) p;
  small = λ c p q. omega (arith, spread_cost-small c.0.now.periods c.0.now.weights p q);
}

-- over night
pub night_laws : CostLaws night_cost_of
night_laws = capped_laws (λ c. c.0.now) over_night
