-- Texts of decimal digits.
use Rattle.std.proofs.Common.{List, [], arith, get_or, length, refl, true, ℕ, ◌-◌, ◌<◌, ◌∷◌, ◌≡◌, ◌≤◌, take, rules}
use Rattle.std.proofs.lemmas.Bool.Decides.{nat_tests}
use Rattle.std.proofs.lemmas.Grind.{common_steps}
use Rattle.std.proofs.lemmas.List.Folds.{list_all_at}
use Rattle.std.proofs.lemmas.Str.Parse.{digit_from_value, digits_value-take-le}
use Rattle.std.specs.Char.{digit_value, is_ascii_digit}
use Rattle.std.specs.List.{list_all}
use Rattle.std.specs.Str.Parse.{AllDigits, digits_value}
use Rattle.std.proofs.Math.Nat.{pow-le-pow_right}
use Rattle.std.proofs.lemmas.Int.Digits.{digits_value-lt}

-- a byte from 48 to 57 is a digit
pub is_digit : (b : ℕ) → 48 ≤ b → b ≤ 57 → is_ascii_digit b ≡ true
is_digit b least most = grind (arith, common_steps)

pub digit_range : (b : ℕ) → is_ascii_digit b ≡ true → (48 ≤ b) × (b ≤ 57)
digit_range b e = grind (arith, common_steps)

pub value_of_digit : (d : ℕ) → is_ascii_digit d ≡ true → (48 ≤ d) × (d ≤ 57)
    × (digit_value d ≡ d - 48)
value_of_digit d e = grind (arith, nat_tests)

-- each byte of a text of digits is one
pub digit_at : (ds : List ℕ) (i : ℕ) → list_all is_ascii_digit ds ≡ true → i < length ds
    → is_ascii_digit (get_or ds i 0) ≡ true
digit_at ds i all inside = grind (arith, common_steps, list_all_at)

-- a text of digits, by the test and by their values
pub AllDigits-from_test : (ds : List ℕ) → list_all is_ascii_digit ds ≡ true → AllDigits 10 ds
AllDigits-from_test [] h = tt
AllDigits-from_test (d ∷ ds) h =
    search (rules, AllDigits-from_test ds (grind (arith, nat_tests)), digit_at, value_of_digit)

pub test-from_AllDigits : (ds : List ℕ) → AllDigits 10 ds → list_all is_ascii_digit ds ≡ true
test-from_AllDigits [] all = refl
test-from_AllDigits (b ∷ bs) all =
    grind (arith, common_steps, test-from_AllDigits bs all.1, digit_from_value)

-- nine digits write less than 10 ^ 9
pub nine_digits : (ds : List ℕ) → list_all is_ascii_digit ds ≡ true → length ds ≤ 9 →
    digits_value 10 ds < 1000000000
nine_digits ds h short =
    grind (arith, common_steps, AllDigits-from_test, digits_value-lt, pow-le-pow_right)

-- the value of the first digits is below 10 ^ 9 too
pub nine_digits_front : (ds : List ℕ) (i n : ℕ) → list_all is_ascii_digit ds ≡ true → length ds ≤ 9 →
    n ≡ digits_value 10 (take i ds) → n ≤ 999999999
nine_digits_front ds i n all few is =
    omega (arith, nine_digits ds all few, digits_value-take-le 10 ds i (omega arith))
