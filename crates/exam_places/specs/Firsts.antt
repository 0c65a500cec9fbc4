-- The first number that passes a test.
use Rattle.std.specs.Prelude.{ℕ, zero, suc, Bool, true, false, if◌then◌else◌, Option, Some, None}
use Rattle.std.specs.Option.{option_or}

-- the number that was found so far, else n if it passes
abbrev pub found_or : Option ℕ → Bool → ℕ → Option ℕ
found_or found passes n = option_or found (if passes then Some n else None)

-- the first number below n that passes
abbrev pub first_below : ℕ → (ℕ → Bool) → Option ℕ
first_below zero test = None
first_below (suc n) test = found_or (first_below n test) (test n) n

-- whether there is one
abbrev pub is_found : Option ℕ → Bool
is_found None = false
is_found (Some n) = true
