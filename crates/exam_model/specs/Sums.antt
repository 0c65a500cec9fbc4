-- Sums over numbers, over pairs of numbers, and over pairs of indexes of a list.
use Rattle.std.specs.Prelude.{ℕ, zero, suc, ◌+◌, Bool, if◌then◌else◌, List, [], ◌∷◌, sum_by}

-- g summed over the numbers below n
abbrev pub sum_below : ℕ → (ℕ → ℕ) → ℕ
sum_below zero g = 0
sum_below (suc n) g = sum_below n g + g n

-- g summed over all pairs of numbers below n, the smaller first
abbrev pub sum_pairs_below : ℕ → (ℕ → ℕ → ℕ) → ℕ
sum_pairs_below n g = sum_below n (λ f. sum_below f (λ e. g e f))

-- g summed over all pairs of elements of a list, the earlier one first
abbrev pub sum_pairs : {X : Type 0} → (X → X → ℕ) → List X → ℕ
sum_pairs g [] = 0
sum_pairs g (x ∷ xs) = sum_by (g x) xs + sum_pairs g xs

-- how many numbers below n pass
abbrev pub count_below : ℕ → (ℕ → Bool) → ℕ
count_below n test = sum_below n (λ e. if test e then 1 else 0)
