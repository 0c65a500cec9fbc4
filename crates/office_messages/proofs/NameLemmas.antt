-- The names between commas, one at a time.
use Rattle.std.proofs.Common.{◌≡◌, ◌≢◌, ℕ, zero, suc, ◌<◌, cond, List, [], ◌∷◌, map, length, get_or}
use Rattle.std.proofs.Common.{take, drop, refl, ap, ◌∙◌, arith}
use Rattle.std.specs.List.{onto_first}
use Rattle.std.proofs.lemmas.Bool.{eq-eqb, ne_eqb}
use Rattle.httparse.specs.Grammar.{trim_ows}
use Rattle.office_messages.specs.Names.{pieces_of, names_of}

-- the first piece ends at the first comma
pieces_at : (xs : List ℕ) (i : ℕ) → i < length xs → get_or xs i 0 ≡ 44
    → ((k : ℕ) → k < i → get_or xs k 0 ≢ 44)
    → pieces_of xs ≡ take i xs ∷ pieces_of (drop (suc i) xs)
pieces_at [] i inside comma before = absurd (omega arith)
pieces_at (b ∷ bs) zero inside comma before =
    ap (λ t. cond t ([] ∷ pieces_of bs) (onto_first b (pieces_of bs))) (eq-eqb b 44 comma)
pieces_at (b ∷ bs) (suc i) inside comma before =
    ap (λ t. cond t ([] ∷ pieces_of bs) (onto_first b (pieces_of bs)))
    (ne_eqb b 44 (before 0 (omega arith)))
    ∙ ap (onto_first b)
    (pieces_at bs i (omega arith) comma (λ k below. before (suc k) (omega arith)))

-- without a comma there is one piece
pieces_whole : (xs : List ℕ) → ((k : ℕ) → k < length xs → get_or xs k 0 ≢ 44)
    → pieces_of xs ≡ xs ∷ []
pieces_whole [] none = refl
pieces_whole (b ∷ bs) none =
    ap (λ t. cond t ([] ∷ pieces_of bs) (onto_first b (pieces_of bs)))
    (ne_eqb b 44 (none 0 (omega arith)))
    ∙ ap (onto_first b) (pieces_whole bs (λ k below. none (suc k) (omega arith)))

pub names_at : (xs : List ℕ) (i : ℕ) → i < length xs → get_or xs i 0 ≡ 44
    → ((k : ℕ) → k < i → get_or xs k 0 ≢ 44)
    → names_of xs ≡ trim_ows (take i xs) ∷ names_of (drop (suc i) xs)
unfolding names_of
names_at xs i inside comma before = ap (map trim_ows) (pieces_at xs i inside comma before)

pub names_whole : (xs : List ℕ) → ((k : ℕ) → k < length xs → get_or xs k 0 ≢ 44)
    → names_of xs ≡ trim_ows xs ∷ []
unfolding names_of
names_whole xs none = ap (map trim_ows) (pieces_whole xs none)
