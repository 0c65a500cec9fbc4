-- Numbers of callers and paths, and which of them are small enough for a command.
use Rattle.std.specs.Prelude.{ℕ, ◌&&◌, nat_le, if◌then◌else◌, ◌≤◌}
use Rattle.std.specs.Prelude.{List, [], ◌∷◌, length, Option, Some, None}
use Rattle.std.specs.List.{list_all}
use Rattle.std.specs.Char.{is_ascii_digit}
use Rattle.std.specs.Str.Parse.{digits_value}
use Rattle.exam_terms.specs.declared.limits.TheConstants.{NUMBER_DIGITS, MAX_NUMBER}
use Rattle.exam_terms.specs.declared.place.Place.{Place}

-- the number that a text of one to nine digits writes
abbrev pub number_of : List ℕ → Option ℕ
number_of [] = None
number_of (b ∷ bs) =
    if nat_le (length (b ∷ bs)) NUMBER_DIGITS && list_all is_ascii_digit (b ∷ bs)
    then Some (digits_value 10 (b ∷ bs)) else None

-- a number of at most nine digits
abbrev pub IsSmall : ℕ → Type 0
IsSmall n = n ≤ MAX_NUMBER

-- both numbers of a place are
abbrev pub IsSmallPlace : Place → Type 0
IsSmallPlace at = IsSmall at.period × IsSmall at.room
