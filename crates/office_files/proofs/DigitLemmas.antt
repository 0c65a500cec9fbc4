-- Digits that are read from the front.
use Rattle.std.proofs.lemmas.Grind.{common_steps}
use Rattle.std.proofs.Common.{◌≡◌, ℕ, ◌+◌, ◌-◌, ◌*◌, ◌<◌, ◌≤◌, true}
use Rattle.std.proofs.Common.{List, [], ◌∷◌, length, get_or, drop, drop-cons, add-one}
use Rattle.std.proofs.Common.{Result, Ok, Err, refl, sym, ◌∙◌, arith}
use Rattle.std.specs.Prelude.{min, nat_le, if◌then◌else◌}
use Rattle.std.specs.List.{list_all}
use Rattle.std.specs.Char.{is_ascii_digit}
use Rattle.std.proofs.lemmas.Bool.{lt-leb, cases_lt}
use Rattle.office_files.specs.Numbers.{read_on}
use Rattle.office_files.specs.declared.fault.FaultKind.{FaultKind}
use Rattle.office_files.specs.declared.fault.FaultKind.TheVariants.{BadNumber, OutOfRange}

-- the value of a field that begins with the digits of n and continues with this text
abbrev pub goes_on : ℕ → ℕ → List ℕ → Result ℕ FaultKind
goes_on limit n ds =
    if list_all is_ascii_digit ds
    then (if nat_le (read_on n ds) limit then Ok (read_on n ds) else Err OutOfRange)
    else Err BadNumber

-- more digits make no number smaller
le-read_on : (n : ℕ) (ds : List ℕ) → n ≤ read_on n ds
le-read_on n [] = omega arith
le-read_on n (d ∷ ds) = omega (arith, le-read_on (10 * n + (d - 48)) ds)

-- past the limit it stays past it
goes_on-past : (limit n : ℕ) (ds : List ℕ) → limit < n →
    goes_on limit n ds ≡ (if list_all is_ascii_digit ds then Err OutOfRange else Err BadNumber)
goes_on-past limit n ds past =
    rw (lt-leb (read_on n ds) limit (omega (arith, le-read_on n ds))) refl

-- past the limit any two numbers go on alike
pub goes_on-alike : (limit n m : ℕ) (ds : List ℕ) → limit < n → limit < m →
    goes_on limit n ds ≡ goes_on limit m ds
goes_on-alike limit n m ds past also = goes_on-past limit n ds past
    ∙ sym (goes_on-past limit m ds also)

-- one more digit
pub goes_on-digit : (limit n : ℕ) (text : List ℕ) (i : ℕ) → i < length text →
    is_ascii_digit (get_or text i 0) ≡ true →
    goes_on limit n (drop i text) ≡ goes_on limit (10 * n + (get_or text i 0 - 48))
    (drop (i + 1) text)
goes_on-digit limit n text i lt digit = rw (add-one i, drop-cons text i 0, digit) refl

-- above every limit a number may be cut down
pub goes_on-capped : (limit cap n : ℕ) (ds : List ℕ) → limit < cap →
    goes_on limit (min n cap) ds ≡ goes_on limit n ds
goes_on-capped limit cap n ds below = grind (arith, common_steps, cases_lt, goes_on-alike)
