-- The results of cutting and trimming.
use Rattle.std.proofs.lemmas.Grind.{common_steps}
use Rattle.std.proofs.Common.{◌≡◌, ℕ, zero, suc, ◌+◌, ◌<◌, Bool, true, List, [], ◌∷◌}
use Rattle.std.proofs.Common.{length, get_or, take, drop, refl, ap, sym, ◌∙◌, arith}
use Rattle.std.proofs.Common.{add-one}
use Rattle.std.specs.Prelude.{◌==◌, map}
use Rattle.std.proofs.lemmas.Bool.{eq-eqb, ne_eqb}
use Rattle.exam_lists.proofs.Parts.{some_onto_first}
use mathlib.Core.Bool.{true≢false}
use Rattle.exam_terms.specs.Texts.{trimmed_text}
use Rattle.office_files.specs.Fields.{ended_parts, fields_of}

-- a text without the mark is one part
pub parts_none : (c : ℕ) (bs : List ℕ) → 0 < length bs →
    ((k : ℕ) → k < length bs → get_or bs k 0 ≡ c → ⊥) → ended_parts c bs ≡ bs ∷ []
parts_none c [] some other = absurd (omega arith)
parts_none c (b ∷ []) some other = rw (ne_eqb b c (other 0 (omega arith)))
parts_none c (b ∷ d ∷ bs) some other =
    rw (
      ne_eqb b c (other 0 (omega arith)),
      parts_none c (d ∷ bs) (omega arith) (λ k lt. other (suc k) (omega arith)),
    ) refl

-- the first part ends at the first mark
pub parts_at : (c : ℕ) (bs : List ℕ) (i : ℕ) → i < length bs → get_or bs i 0 ≡ c →
    ((k : ℕ) → k < i → get_or bs k 0 ≡ c → ⊥) →
    ended_parts c bs ≡ take i bs ∷ ended_parts c (drop (i + 1) bs)
parts_at c [] i lt is other = absurd (omega arith)
parts_at c (b ∷ bs) zero lt is other = rw (eq-eqb b c is)
parts_at c (b ∷ bs) (suc i) lt is other =
    rw (
      ne_eqb b c (other 0 (omega arith)),
      parts_at c bs i (omega arith) is (λ k lt. other (suc k) (omega arith)),
      add-one (suc i),
      add-one i,
    ) refl

pub parts_some : (c : ℕ) (bs : List ℕ) → 0 < length bs → 0 < length (ended_parts c bs)
parts_some c [] some = absurd (omega arith)
parts_some c (b ∷ bs) some = grind (arith, common_steps, some_onto_first)

length-map : (xs : List (List ℕ)) → length (map trimmed_text xs) ≡ length xs
length-map [] = refl
length-map (x ∷ xs) = omega (arith, length-map xs)

-- only an empty line has no fields
pub fields_none : (line : List ℕ) → fields_of line ≡ [] → line ≡ []
fields_none [] e = refl
fields_none (b ∷ bs) e = grind (arith, common_steps, length-map, parts_some)

-- a test of the length decides whether a field is left
pub fields_test : (line : List ℕ) (b : Bool) → b ≡ (length line == 0) →
    (b ≡ true → fields_of line ≡ []) × (fields_of line ≡ [] → b ≡ true)
fields_test [] b e = (λ _. refl, λ _. e)
fields_test (x ∷ xs) b e = (
  λ t. absurd (true≢false (sym t ∙ e ∙ ne_eqb (suc (length xs)) 0 (omega arith))),
  λ f. let gone = ap length (fields_none (x ∷ xs) f) in absurd (omega arith),
)

pub ruleset part_facts = (parts_none, parts_at)
