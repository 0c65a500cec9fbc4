-- The name of a file as it is printed.
use Rattle.std.specs.Prelude.{false, ℕ, ◌/◌, ◌%◌, ◌++◌, ◌∷◌, [], List, codes, if◌then◌else◌}
use Rattle.std.specs.Char.{is_ascii_control}
use Rattle.std.specs.Fmt.{digit_glyph}
use Rattle.std.specs.List.{flat_map}

-- a byte of a name: those below 32 and 127, such as a line break, in hexadecimal, as `\x0a`; any
-- other as it is
abbrev pub printed_byte : ℕ → List ℕ
printed_byte b = if is_ascii_control b
    then codes "\\x" ++ digit_glyph false (b / 16) ∷ digit_glyph false (b % 16) ∷ [] else b ∷ []

-- a name as it is printed, which is one line
abbrev pub printed_name : List ℕ → List ℕ
printed_name = flat_map printed_byte
