-- Sums in a table, updated along a list.
use Rattle.std.specs.Prelude.{◌≡◌, ℕ, ◌*◌, ◌<◌, ◌≤◌, Bool, List, length, count_by, slice_index}
use Rattle.exam_terms.specs.declared.limits.TheConstants.{MAX_AMOUNT}

-- entry k is the amount of k, once for each element that passes its test
pub record AreTallied {X : Type 0} (amount : ℕ → ℕ) (test : ℕ → X → Bool) (n : ℕ) (xs : List X)
    (sums : List ℕ) : Type 0 where
  pub count : length sums ≡ n
  pub each : (k : ℕ) → k < n → slice_index sums k ≡ amount k * count_by (test k) xs
  -- no entry is near the limit of its type
  pub small : (k : ℕ) → slice_index sums k ≤ length xs * MAX_AMOUNT
