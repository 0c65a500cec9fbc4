-- Sums in a table: with one more element, and the whole table as a list.
use Rattle.std.proofs.lemmas.Grind.{common_steps}
use Rattle.std.specs.List.{range_with_len}
use Rattle.std.proofs.Common.{◌≡◌, ℕ, ◌+◌, ◌*◌, ◌<◌, ◌≤◌, ◌⊎◌, inl, inr, Bool, cond, eqb, List, [], ◌∷◌, ◌++◌, length, get_or, map, count_by, refl, sym, ◌∙◌, ap, arith, length-append, slice_set, slice_index, length-set, get_or-set_same, get_or-set_other}
use Rattle.std.proofs.lemmas.Bool.{cases_eq, eq-eqb, ne_eqb}
use Rattle.std.proofs.lemmas.List.FromFn.{fill_by_all}
use Rattle.std.proofs.lemmas.List.Sums.{sum_by_push}
use Rattle.exam_publish.specs.Tallies.{AreTallied}

pub tally_more : {X : Type 0} (amount : ℕ → ℕ) (test : ℕ → X → Bool) (n : ℕ) (xs : List X)
    (sums : List ℕ) (x : X) (key new : ℕ)
    → AreTallied amount test n xs sums → key < n → ((k : ℕ) → test k x ≡ eqb key k)
    → amount key ≤ 100000
    → new ≡ slice_index sums key + amount key
    → AreTallied amount test n (xs ++ x ∷ []) (slice_set sums key new)
tally_more {X} amount test n xs sums x key new was lt is few put = record {
  count = length-set sums key new ∙ was.count;
  each = λ k within. each k within (cases_eq key k);
  small = λ k. small k (cases_eq k key);
}
  where
    inside : key < length sums
    inside = omega (arith, was.count)

    counted : (k : ℕ) → count_by (test k) (xs ++ x ∷ [])
        ≡ count_by (test k) xs + cond (eqb key k) 1 0
    counted k = sum_by_push (λ z. cond (test k z) 1 0) xs x
        ∙ ap (λ b. count_by (test k) xs + cond b 1 0) (is k)

    each : (k : ℕ) → k < n → (key ≡ k) ⊎ (key ≡ k → ⊥)
        → get_or (slice_set sums key new) k 0 ≡ amount k * count_by (test k) (xs ++ x ∷ [])
    each k within (inl same) =
        let own = was.each key lt in
        let count = counted key
        ∙ ap (λ b. count_by (test key) xs + cond b 1 0) (eq-eqb key key refl) in
        ap (λ j. get_or (slice_set sums key new) j 0) (sym same)
        ∙ get_or-set_same sums key new 0 inside ∙ put
        ∙ ap (λ j. j + amount key) own ∙ product (amount key) (count_by (test key) xs)
        ∙ ap (λ c. amount key * c) (sym count)
        ∙ ap (λ j. amount j * count_by (test j) (xs ++ x ∷ [])) same
      where
        product : (a c : ℕ) → a * c + a ≡ a * (c + 1)
        product a c = omega arith
    each k within (inr other) = grind (arith, common_steps, ne_eqb, get_or-set_other)

    small : (k : ℕ) → (k ≡ key) ⊎ (k ≡ key → ⊥)
        → get_or (slice_set sums key new) k 0 ≤ length (xs ++ x ∷ []) * 100000
    small k (inl same) = grind (arith, common_steps, get_or-set_same, length-append)
    small k (inr other) = grind (arith, get_or-set_other, length-append)

pub tallied_list : {X : Type 0} (amount : ℕ → ℕ) (test : ℕ → X → Bool) (n : ℕ)
    (xs : List X) (sums : List ℕ)
    → AreTallied amount test n xs sums
    → sums ≡ map (λ k. amount k * count_by (test k) xs) (range_with_len 0 n)
tallied_list amount test n xs sums are =
    fill_by_all (λ k. amount k * count_by (test k) xs) sums n 0 are.count are.each
