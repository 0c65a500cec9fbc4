-- A list without repeats that has as many elements as another, all of them from it.
use Rattle.std.proofs.Common.{List, [], arith, get_or, length, subst, suc, sym, zero, ℕ, ◌<◌, ◌∷◌, ◌≡◌, ◌≢◌}
use Rattle.std.proofs.lemmas.List.{nil_from_length}
use Rattle.std.proofs.lemmas.List.Elements.{All-head}
use Rattle.std.proofs.lemmas.List.Sorted.{Contains-permutation, IsPermutation-cons, IsPermutation-refl, IsPermutation-remove, IsPermutation-trans, length_permutation}
use Rattle.std.specs.List.{remove}
use Rattle.std.specs.Prelude.{All, AllPairs, Contains, IsPermutation}

module _ {X : Type 0} where
  there : (x y : X) (xs : List X) (k : ℕ) → k < length (x ∷ xs) → get_or (x ∷ xs) k y ≡ y → x ≢ y
      → Contains xs y
  there x y xs zero within is other = absurd (other is)
  there x y xs (suc k) within is other = (k, omega arith, is)

  -- the same number of values, and of those that differ
  pub reordered : (ys xs : List X) → length xs ≡ length ys → AllPairs (λ x y. x ≢ y) ys
      → All (Contains xs) ys → IsPermutation xs ys
  reordered [] xs long apart inside =
      subst (λ l. IsPermutation l []) (sym (nil_from_length xs long)) (IsPermutation-refl [])
  reordered (y ∷ ys) xs long apart inside =
      let here = All-head (Contains xs) y ys inside in
      let rest = remove xs here.0 in
      let out = IsPermutation-remove xs here.0 y here.1 (sym here.2) in
      let one_less = length_permutation xs (y ∷ rest) out in
      let left : All (Contains rest) ys = λ k d within.
      let z = get_or ys k d in
      let still = Contains-permutation xs (y ∷ rest) z out (inside (suc k) d (omega arith)) in
      there y z rest still.0 still.1 still.2 (apart 0 (suc k) d (omega arith) (omega arith)) in
      IsPermutation-trans xs (y ∷ rest) (y ∷ ys) out
      (IsPermutation-cons y rest ys
      (reordered ys rest (omega arith)
      (λ i j d before within. apart (suc i) (suc j) d (omega arith) (omega arith)) left))
