-- The first segment of a path, and the rest after its slash.
use Rattle.std.proofs.Common.{◌≡◌, ◌≢◌, ℕ, zero, suc, ◌+◌, ◌-◌, ◌<◌, List, [], ◌∷◌}
use Rattle.std.proofs.Common.{length, get_or, take, drop, refl, ap, ◌∙◌, arith, add-one}
use Rattle.std.proofs.lemmas.Bool.{eq-eqb, ne_eqb}
use Rattle.office_requests.specs.Paths.{first_segment, rest_after_slash, segment}

-- without a slash all of the path is before it
pub first_none : (path : List ℕ) →
    ((k : ℕ) → k < length path → get_or path k 0 ≡ 47 → ⊥) → first_segment path ≡ path
first_none [] other = refl
first_none (b ∷ path) other =
    rw (ne_eqb b 47 (other 0 (omega arith)))
    (ap (λ l. b ∷ l) (first_none path (λ k lt. other (suc k) (omega arith))))

pub rest_none : (path : List ℕ) →
    ((k : ℕ) → k < length path → get_or path k 0 ≡ 47 → ⊥) → rest_after_slash path ≡ []
rest_none [] other = refl
rest_none (b ∷ path) other =
    rw (ne_eqb b 47 (other 0 (omega arith)))
    (rest_none path (λ k lt. other (suc k) (omega arith)))

-- at the first slash it is cut
pub first_at : (path : List ℕ) (i : ℕ) → i < length path → get_or path i 0 ≡ 47 →
    ((k : ℕ) → k < i → get_or path k 0 ≡ 47 → ⊥) → first_segment path ≡ take i path
first_at [] i lt is other = absurd (omega arith)
first_at (b ∷ path) zero lt is other = rw (eq-eqb b 47 is)
first_at (b ∷ path) (suc i) lt is other =
    rw (ne_eqb b 47 (other 0 (omega arith)))
    (ap (λ l. b ∷ l) (first_at path i (omega arith) is (λ k lt. other (suc k) (omega arith))))

pub rest_at : (path : List ℕ) (i : ℕ) → i < length path → get_or path i 0 ≡ 47 →
    ((k : ℕ) → k < i → get_or path k 0 ≡ 47 → ⊥) → rest_after_slash path ≡ drop (i + 1) path
rest_at [] i lt is other = absurd (omega arith)
rest_at (b ∷ path) zero lt is other = rw (eq-eqb b 47 is)
rest_at (b ∷ path) (suc i) lt is other =
    rw (ne_eqb b 47 (other 0 (omega arith)), add-one (suc i))
    (rest_at path i (omega arith) is (λ k lt. other (suc k) (omega arith))
    ∙ rw (add-one i) refl)

-- a later segment is one of the rest after the slash
pub segment_later : (place : ℕ) (path : List ℕ) → place ≢ 0 →
    segment place path ≡ segment (place - 1) (rest_after_slash path)
segment_later zero path some = absurd (some refl)
segment_later (suc place) path some = grind (arith)

pub ruleset slash_facts = (first_none, rest_none, first_at, rest_at)
