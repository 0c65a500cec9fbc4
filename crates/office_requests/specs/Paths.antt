-- The segments of a path, and the numbers in it.
use Rattle.std.specs.Prelude.{ℕ, zero, suc, ◌==◌, if◌then◌else◌, List, [], ◌∷◌, get_or}
use Rattle.std.specs.Prelude.{Option, Some, option_map, option_and_then}
use Rattle.matchit.specs.Seek.{slash}
use Rattle.office_policy.specs.Numbers.{number_of}
use Rattle.office_requests.specs.Pages.{Part, word, number, parts_of}
use Rattle.office_requests.specs.declared.routes.Page.{Page}

-- the bytes before the first slash
abbrev pub first_segment : List ℕ → List ℕ
first_segment [] = []
first_segment (b ∷ path) = if b == slash then [] else b ∷ first_segment path

-- the bytes after the first slash
abbrev pub rest_after_slash : List ℕ → List ℕ
rest_after_slash [] = []
rest_after_slash (b ∷ path) = if b == slash then path else rest_after_slash path

-- a segment of a path, counted from 0
abbrev pub segment : ℕ → List ℕ → List ℕ
segment zero path = first_segment path
segment (suc place) path = segment place (rest_after_slash path)

-- the number that a segment is
abbrev pub number_in : ℕ → List ℕ → Option ℕ
number_in place path = number_of (segment place path)

-- the numbers in a path of these parts, in order; none if one of its segments isn't a number
abbrev pub numbers_in : List Part → List ℕ → Option (List ℕ)
numbers_in [] path = Some []
numbers_in (word w ∷ parts) path = numbers_in parts (rest_after_slash path)
numbers_in (number ∷ parts) path =
    option_and_then (λ n. option_map (λ ns. n ∷ ns) (numbers_in parts (rest_after_slash path)))
    (number_in 1 path)

-- the first three numbers, or 0 in place of those that are missing
abbrev pub three : List ℕ → ℕ × ℕ × ℕ
three ns = (get_or ns 0 0, get_or ns 1 0, get_or ns 2 0)

-- the numbers in a path of the page
abbrev pub numbers_of : Page → List ℕ → Option (ℕ × ℕ × ℕ)
numbers_of p path = option_map three (numbers_in (parts_of p) path)
