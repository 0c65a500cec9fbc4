-- The number of a field.
use Rattle.std.specs.Prelude.{ℕ, ◌+◌, ◌*◌, ◌-◌, Bool, ◌&&◌, nat_lt, nat_le, if◌then◌else◌}
use Rattle.std.specs.Prelude.{List, [], ◌∷◌, length, Result, Ok, Err}
use Rattle.std.specs.List.{list_all}
use Rattle.std.specs.Char.{is_ascii_digit}
use Rattle.office_files.specs.declared.fault.FaultKind.{FaultKind}
use Rattle.office_files.specs.declared.fault.FaultKind.TheVariants.{BadNumber, OutOfRange}

-- the value of digits that follow the digits of n
abbrev pub read_on : ℕ → List ℕ → ℕ
read_on n [] = n
read_on n (d ∷ ds) = read_on (10 * n + (d - 48)) ds

-- one or more digits
abbrev pub is_number : List ℕ → Bool
is_number text = nat_lt 0 (length text) && list_all is_ascii_digit text

-- a number, if it is at most the limit
abbrev pub at_most : ℕ → ℕ → Result ℕ FaultKind
at_most limit n = if nat_le n limit then Ok n else Err OutOfRange

-- a number of at most the limit, or its fault
abbrev pub number : ℕ → List ℕ → Result ℕ FaultKind
number limit text = if is_number text then at_most limit (read_on 0 text) else Err BadNumber
