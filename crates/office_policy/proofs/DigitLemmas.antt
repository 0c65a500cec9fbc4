-- The value of digits.
use Rattle.std.proofs.Common.{◌≡◌, ℕ, ◌+◌, ◌-◌, ◌*◌, ◌<◌, ◌≤◌, true, List}
use Rattle.std.proofs.Common.{length, get_or, take, arith}
use Rattle.std.specs.List.{list_all}
use Rattle.std.specs.Char.{is_ascii_digit}
use Rattle.std.specs.Str.Parse.{digits_value}
use Rattle.std.proofs.lemmas.Int.Digits.{digits_value_more}
use Rattle.std.proofs.lemmas.Str.Parse.{digits_value-take-le}
use Rattle.exam_lists.proofs.Digits.{digit_at, value_of_digit, nine_digits}

-- one more digit, and the number is still below 10 ^ 9
pub record OneMore (ds : List ℕ) (i n : ℕ) : Type 0 where
  pub digit : 48 ≤ get_or ds i 0
  pub same : n * 10 + (get_or ds i 0 - 48) ≡ digits_value 10 (take (i + 1) ds)
  pub small : n * 10 + (get_or ds i 0 - 48) < 1000000000

pub one_more : (ds : List ℕ) (i n : ℕ) → list_all is_ascii_digit ds ≡ true → length ds ≤ 9 →
    i < length ds → n ≡ digits_value 10 (take i ds) → OneMore ds i n
one_more ds i n all few inside is =
    let value = value_of_digit (get_or ds i 0) (digit_at ds i all inside) in
    let more = digits_value_more 10 ds i inside in
    let most = digits_value-take-le 10 ds (i + 1) (omega arith) in
    let all_small = nine_digits ds all few in
    let sums : n * 10 + (get_or ds i 0 - 48) ≡ digits_value 10 (take (i + 1) ds) =
    omega (arith, value.2, more, is) in
    record { digit = value.0; same = sums; small = omega (arith, sums, most, all_small) }
