-- The bytes that the formats of files name (ITC 2007, input and output format).
use Rattle.std.specs.Prelude.{ℕ}

-- a space
abbrev pub space : ℕ
space = 32

-- the byte between the fields of a line
abbrev pub comma : ℕ
comma = 44

-- the byte in dates and times, and before the number of lines in a header
abbrev pub colon : ℕ
colon = 58

-- the byte at the end of a line
abbrev pub line_feed : ℕ
line_feed = 10

-- the byte that may precede it
abbrev pub carriage_return : ℕ
carriage_return = 13

-- the first byte of a header
abbrev pub opening_bracket : ℕ
opening_bracket = 91

-- the last byte of a header
abbrev pub closing_bracket : ℕ
closing_bracket = 93
