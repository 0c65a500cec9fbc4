-- The result of trimming a text.
use Rattle.std.proofs.Common.{◌≡◌, ℕ, Bool, true, false, List, [], ◌∷◌, ◌++◌, refl, ap, ◌∙◌}
use Rattle.exam_terms.specs.Texts.{is_blank, before_end, trim_start, trim_end}

blank_single : (b : ℕ) → is_blank b ≡ true → before_end b [] ≡ []
blank_single b e = rw e refl

kept_single : (b : ℕ) → is_blank b ≡ false → before_end b [] ≡ b ∷ []
kept_single b e = rw e refl

before_some : (b c : ℕ) (cs : List ℕ) → before_end b (cs ++ c ∷ []) ≡ b ∷ (cs ++ c ∷ [])
before_some b c [] = refl
before_some b c (d ∷ cs) = refl

-- a blank at the end is trimmed
pub trim_end-blank : (xs : List ℕ) (b : ℕ) → is_blank b ≡ true →
    trim_end (xs ++ b ∷ []) ≡ trim_end xs
trim_end-blank [] b e = blank_single b e
trim_end-blank (x ∷ xs) b e = ap (before_end x) (trim_end-blank xs b e)

-- any other byte at the end is kept
pub trim_end-kept : (xs : List ℕ) (b : ℕ) → is_blank b ≡ false →
    trim_end (xs ++ b ∷ []) ≡ xs ++ b ∷ []
trim_end-kept [] b e = kept_single b e
trim_end-kept (x ∷ xs) b e = ap (before_end x) (trim_end-kept xs b e) ∙ before_some x b xs

pub trim_start-blank : (b : ℕ) (xs : List ℕ) → is_blank b ≡ true →
    trim_start (b ∷ xs) ≡ trim_start xs
trim_start-blank b xs e = rw e refl

pub trim_start-kept : (b : ℕ) (xs : List ℕ) → is_blank b ≡ false → trim_start (b ∷ xs) ≡ b ∷ xs
trim_start-kept b xs e = rw e refl

pub ruleset trim_facts = (trim_end-blank, trim_end-kept, trim_start-blank, trim_start-kept)
