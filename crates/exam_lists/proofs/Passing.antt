-- The elements of a list that pass a test: none, one, two or all.
use Rattle.std.proofs.lemmas.Grind.{common_steps}
use Rattle.std.proofs.Common.{Bool, List, [], ap, arith, cond, false, filter, get_or, length, refl, suc, true, zero, ℕ, ◌<◌, ◌∙◌, ◌∷◌, ◌≡◌, ◌≤◌}
use Rattle.std.proofs.lemmas.List.Folds.{list_all_at, list_any_at}
use Rattle.std.specs.List.{list_all, list_any}
use Rattle.std.specs.Prelude.{All, ◌&&◌}

module _ {X : Type 0} (p : X → Bool) where
  -- no element passes
  pub none_pass : (xs : List X) → All (λ x. p x ≡ false) xs → filter p xs ≡ []
  none_pass [] h = refl
  none_pass (x ∷ xs) h =
      ap (λ b. cond b (x ∷ filter p xs) (filter p xs)) {y = false} (h 0 x (omega arith))
      ∙ none_pass xs (λ k d lt. h (suc k) d (omega (arith, lt)))

  -- some element passes: at least one is left
  pub one_passes : (xs : List X) → list_any p xs ≡ true → 1 ≤ length (filter p xs)
  one_passes [] h = absurd (cc)
  one_passes (x ∷ xs) h = grind (arith, common_steps, one_passes xs)

  -- at least one is left: some element passes
  pub found_one : (xs : List X) → 1 ≤ length (filter p xs) → list_any p xs ≡ true
  found_one [] h = absurd (omega (arith, h))
  found_one (x ∷ xs) h = grind (arith, common_steps, found_one xs)

  -- the element at an index passes
  pub passes_at : (xs : List X) (k : ℕ) (d : X) → k < length xs → p (get_or xs k d) ≡ true
      → 1 ≤ length (filter p xs)
  passes_at xs k d lt h = one_passes xs (list_any_at p xs k d lt h)

  -- all elements pass
  pub each_passes : (xs : List X) → list_all p xs ≡ true → All (λ x. p x ≡ true) xs
  each_passes xs h k d lt = grind (arith, common_steps, list_all_at)

  -- no element fails
  pub all_pass : (xs : List X) → All (λ x. p x ≡ true) xs → list_all p xs ≡ true
  all_pass [] h = refl
  all_pass (x ∷ xs) h =
      ap (λ b. b && list_all p xs) {y = true} (h 0 x (omega arith))
      ∙ all_pass xs (λ k d lt. h (suc k) d (omega (arith, lt)))

  -- two elements pass
  pub two_pass : (xs : List X) (j i : ℕ) (d : X) → j < i → i < length xs
      → p (get_or xs j d) ≡ true → p (get_or xs i d) ≡ true → 2 ≤ length (filter p xs)
  two_pass [] j i d below lt e f = absurd (omega (arith, lt))
  two_pass (x ∷ xs) j i d below lt e f =
      go (p x) refl j i below lt e f (λ j i. two_pass xs j i d)
    where
      go : (b : Bool) → p x ≡ b → (j i : ℕ) → j < i → i < length (x ∷ xs)
          → p (get_or (x ∷ xs) j d) ≡ true → p (get_or (x ∷ xs) i d) ≡ true
          → ((j i : ℕ) → j < i → i < length xs → p (get_or xs j d) ≡ true
          → p (get_or xs i d) ≡ true → 2 ≤ length (filter p xs))
          → 2 ≤ length (cond b (x ∷ filter p xs) (filter p xs))
      go b is j zero below lt e f more = absurd (omega (arith, below))
      go true is zero (suc i) below lt e f more =
          let one = passes_at xs i d (omega (arith, lt)) f in omega (arith, one)
      go false is zero (suc i) below lt e f more = absurd (cc)
      go true is (suc j) (suc i) below lt e f more =
          let two = more j i (omega (arith, below)) (omega (arith, lt)) e f in omega (arith, two)
      go false is (suc j) (suc i) below lt e f more =
          more j i (omega (arith, below)) (omega (arith, lt)) e f
