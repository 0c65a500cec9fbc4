-- The first number that passes a test.
use Rattle.std.proofs.Common.{◌≡◌, ◌⊎◌, ℕ, zero, suc, ◌+◌, ◌<◌, Bool, true, false, Option, Some, None, refl, ◌∙◌, arith, nat_lt}
use Rattle.exam_lists.proofs.Options.{option_or_none}
use Rattle.exam_model.specs.Sums.{count_below}
use Rattle.exam_places.specs.Firsts.{first_below, found_or, is_found}

-- a number that fails is not the first
pub found_none : (o : Option ℕ) (n : ℕ) → found_or o false n ≡ o
found_none o n = option_or_none o

-- it is below n and passes, and the numbers below it fail
pub record IsFirst (n : ℕ) (test : ℕ → Bool) (f : ℕ) : Type 0 where
  pub within : f < n
  pub passes : test f ≡ true
  pub least : (g : ℕ) → test g ≡ true → g < n → (f ≡ g) ⊎ (f < g)

-- the first number that passes, or that there is none
abbrev pub IsFirstOrNone : ℕ → (ℕ → Bool) → Option ℕ → Type 0
IsFirstOrNone n test None = (g : ℕ) → test g ≡ true → g < n → ⊥
IsFirstOrNone n test (Some f) = IsFirst n test f

pub first_is : (n : ℕ) (test : ℕ → Bool) → IsFirstOrNone n test (first_below n test)
first_is zero test = λ g is lt. omega (arith, lt)
first_is (suc n) test = grind (arith, first_is n test)

-- there is one exactly if the number of those that pass is not 0
pub found_counts : (test : ℕ → Bool) (n : ℕ)
    → nat_lt 0 (count_below n test) ≡ is_found (first_below n test)
found_counts test zero = refl
found_counts test (suc n) = grind (arith, found_counts test n)

-- tests that agree have the same first number
pub first_same : (t u : ℕ → Bool) → ((f : ℕ) → t f ≡ u f) → (n : ℕ)
    → first_below n t ≡ first_below n u
first_same t u same n = λ i. first_below n (λ f. same f i)
