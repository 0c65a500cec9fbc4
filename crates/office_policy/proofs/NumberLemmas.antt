-- How great a number that is read can be.
use Rattle.std.proofs.Common.{◌≡◌, ℕ, ◌&&◌, Bool, true, false, List, [], ◌∷◌, length, Some, None}
use Rattle.std.proofs.Common.{refl, arith}
use Rattle.std.specs.Prelude.{nat_le, IfSome, if◌then◌else◌}
use Rattle.std.specs.List.{list_all}
use Rattle.std.specs.Char.{is_ascii_digit}
use Rattle.std.specs.Str.Parse.{digits_value}
use Rattle.std.proofs.lemmas.Bool.{leb-true}
use Rattle.exam_lists.proofs.Digits.{nine_digits}
use Rattle.office_policy.specs.Numbers.{IsSmall, number_of}

-- nine digits write a small number
pub number_small : (text : List ℕ) → IfSome (number_of text) IsSmall
number_small [] = tt
number_small (b ∷ bs) =
    go (nat_le (length (b ∷ bs)) 9) (list_all is_ascii_digit (b ∷ bs)) refl refl
  where
    go : (few all : Bool) → nat_le (length (b ∷ bs)) 9 ≡ few
        → list_all is_ascii_digit (b ∷ bs) ≡ all
        → IfSome (if few && all then Some (digits_value 10 (b ∷ bs)) else None) IsSmall
    go true true e f = omega (arith, nine_digits (b ∷ bs) f (leb-true (length (b ∷ bs)) 9 e))
    go true false e f = tt
    go false all e f = tt
