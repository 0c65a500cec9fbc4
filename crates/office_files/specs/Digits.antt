-- The value of digits at the front of a text.
use Rattle.std.specs.Prelude.{◌≡◌, ℕ, ◌≤◌, ◌<◌, ◌^◌, true, false, ◌&&◌, ◌==◌, nat_le, if◌then◌else◌}
use Rattle.std.specs.Prelude.{List, [], ◌∷◌, length, take, slice_index, Option, Some, None}
use Rattle.std.specs.List.{list_all}
use Rattle.std.specs.Char.{is_ascii_digit}
use Rattle.office_files.specs.Bytes.{space}
use Rattle.office_files.specs.Numbers.{read_on, is_number}

-- this many digits at the front of a text have that value
pub record HasDigits (text : List ℕ) (value count : ℕ) : Type 0 where
  pub within : count ≤ length text
  pub digits : list_all is_ascii_digit (take count text) ≡ true
  pub same : read_on 0 (take count text) ≡ value
  pub small : value < 10 ^ count

-- the byte after this many bytes of a text is no digit
abbrev pub NoDigitAt : List ℕ → ℕ → Type 0
NoDigitAt text count = count < length text → is_ascii_digit (slice_index text count) ≡ false

-- up to nine digits at the front of a line have that value, and if fewer than nine, no digit
-- follows
pub record IsFront (line : List ℕ) (value count : ℕ) : Type 0 where
  pub has : HasDigits line value count
  pub few : count ≤ 9
  pub whole : count < 9 → NoDigitAt line count

-- the value of one to nine digits; no other text has one
abbrev pub few_digits : List ℕ → Option ℕ
few_digits text =
    if is_number text && nat_le (length text) 9 then Some (read_on 0 text) else None

-- a text without a space at its start
abbrev pub without_space : List ℕ → List ℕ
without_space [] = []
without_space (b ∷ bs) = if b == space then bs else b ∷ bs
