-- The first cut of a text.
use Rattle.std.proofs.Common.{◌≡◌, ℕ, zero, suc, ◌+◌, ◌<◌, List, [], ◌∷◌, length, get_or, take}
use Rattle.std.proofs.Common.{drop, Some, None, refl, arith, add-one}
use Rattle.std.proofs.lemmas.Bool.{eq-eqb, ne_eqb}
use Rattle.office_files.specs.Fields.{split_once}

pub split_once_none : (c : ℕ) (bs : List ℕ) → ((k : ℕ) → k < length bs → get_or bs k 0 ≡ c → ⊥) →
    split_once c bs ≡ None
split_once_none c [] other = refl
split_once_none c (b ∷ bs) other =
    rw (
      ne_eqb b c (other 0 (omega arith)),
      split_once_none c bs (λ k lt. other (suc k) (omega arith)),
    ) refl

pub split_once_at : (c : ℕ) (bs : List ℕ) (i : ℕ) → i < length bs → get_or bs i 0 ≡ c →
    ((k : ℕ) → k < i → get_or bs k 0 ≡ c → ⊥) → split_once c bs ≡ Some (take i bs, drop (i + 1) bs)
split_once_at c [] i lt is other = absurd (omega arith)
split_once_at c (b ∷ bs) zero lt is other = rw (eq-eqb b c is)
split_once_at c (b ∷ bs) (suc i) lt is other =
    rw (
      ne_eqb b c (other 0 (omega arith)),
      split_once_at c bs i (omega arith) is (λ k lt. other (suc k) (omega arith)),
      add-one (suc i),
      add-one i,
    ) refl

pub ruleset split_facts = (split_once_none, split_once_at)
