-- Lists of what numbers give.
use Rattle.std.specs.Prelude.{ℕ, zero, suc, ◌++◌, ◌∷◌, [], List, None, Option, Some}

-- the value as a list, if there is one
abbrev pub listed : {X : Type 0} → Option X → List X
listed None = []
listed (Some x) = x ∷ []

-- the lists that the numbers below n give, one after another
abbrev pub all_below : {X : Type 0} → ℕ → (ℕ → List X) → List X
all_below zero f = []
all_below (suc n) f = all_below n f ++ f n
