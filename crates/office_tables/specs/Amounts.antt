-- The penalties of a row are below 2^62, as every penalty is.
use Rattle.std.specs.Prelude.{ℕ, ◌<◌, ◌^◌}

-- a sum that the tables can hold, and that can be added to another without wrapping
abbrev pub IsStorable : ℕ → Type 0
IsStorable n = n < 2 ^ 62
