-- A text without its leading and trailing blanks.
use Rattle.std.specs.Prelude.{ℕ, Bool, ◌||◌, ◌==◌, if◌then◌else◌, List, [], ◌∷◌}

-- a space or a tab
abbrev pub is_blank : ℕ → Bool
is_blank b = (b == 32) || (b == 9)

-- a text without the blanks at its start
abbrev pub trim_start : List ℕ → List ℕ
trim_start [] = []
trim_start (b ∷ bs) = if is_blank b then trim_start bs else b ∷ bs

-- a byte in front of a text that has no blanks at its end
abbrev pub before_end : ℕ → List ℕ → List ℕ
before_end b [] = if is_blank b then [] else b ∷ []
before_end b (c ∷ cs) = b ∷ c ∷ cs

-- a text without the blanks at its end
abbrev pub trim_end : List ℕ → List ℕ
trim_end [] = []
trim_end (b ∷ bs) = before_end b (trim_end bs)

-- a text without its leading and trailing blanks
abbrev pub trimmed_text : List ℕ → List ℕ
trimmed_text text = trim_end (trim_start text)
