-- The paths that a pattern takes, segment by segment.
use Rattle.std.specs.Prelude.{ℕ, Bool, true, false, not, ◌&&◌, ◌==◌, if◌then◌else◌}
use Rattle.std.specs.Prelude.{List, [], ◌∷◌}
use Rattle.matchit.specs.Rows.{param_token}
use Rattle.matchit.specs.Seek.{slash}

-- the rest of a path from its next slash on
abbrev pub rest_of_segment : List ℕ → List ℕ
rest_of_segment [] = []
rest_of_segment (b ∷ path) = if b == slash then b ∷ path else rest_of_segment path

-- a byte of a pattern takes the same byte, and a number takes a segment, which isn't empty
abbrev pub is_match : List ℕ → List ℕ → Bool
is_match [] [] = true
is_match [] (b ∷ path) = false
is_match (x ∷ pattern) [] = false
is_match (x ∷ pattern) (b ∷ path) =
    if x == param_token then not (b == slash) && is_match pattern (rest_of_segment path)
    else (x == b) && is_match pattern path
