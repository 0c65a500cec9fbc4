-- The cost of two exams of one student, by their periods.
use Rattle.std.specs.Prelude.{◌≡◌, ℕ, ◌≤◌, Option, Some, None}
use Rattle.exam_terms.specs.declared.limits.TheConstants.{MAX_AMOUNT}

-- the laws of every such cost: the order doesn't matter, one period costs nothing, and there is a
-- limit
pub record CostLaws {C : Type 0} (cost_of : C → ℕ → ℕ → ℕ) : Type 0 where
  pub symmetric : (c : C) (p q : ℕ) → cost_of c p q ≡ cost_of c q p
  pub zero_on_equal : (c : C) (p : ℕ) → cost_of c p p ≡ 0
  pub small : (c : C) (p q : ℕ) → cost_of c p q ≤ MAX_AMOUNT

-- the cost of two exams by their periods; nothing if one of them is not placed
abbrev pub cost_between : (ℕ → ℕ → ℕ) → Option ℕ → Option ℕ → ℕ
cost_between cost None q = 0
cost_between cost (Some p) None = 0
cost_between cost (Some p) (Some q) = cost p q
