-- Tests of some, of all or of pairs of elements.
use Rattle.std.proofs.lemmas.Grind.{common_steps}
use Rattle.exam_lists.proofs.Booleans.{same_tests}
use Rattle.std.proofs.Common.{Bool, Contains, List, [], ap, eqb-true, false, map, nat_eq, refl, sym, true, ℕ, ◌&&◌, ◌++◌, ◌==◌, ◌||◌, ◌∙◌, ◌∷◌, ◌≡◌, true≢false, ◌≢◌, arith, rules}
use Rattle.std.proofs.Math.Bool.{and-false, and-true}
use Rattle.std.proofs.lemmas.Bool.{and_parts, eq-eqb}
use Rattle.std.proofs.lemmas.List.Folds.{Any-from_list_any, list_any-append, list_any_at}
use Rattle.std.proofs.lemmas.List.Kept.{Contains-from_dedup}
use Rattle.std.specs.Cmp.Lexicographic.{pointwise}
use Rattle.std.specs.List.{dedup, flat_map, list_all, list_any, AllByRecursion}

-- equal tests
pub any_agree : {X : Type 0} (p q : X → Bool) → ((x : X) → p x ≡ q x) → (xs : List X)
    → list_any p xs ≡ list_any q xs
any_agree p q h xs = λ i. list_any (λ x. h x i) xs

pub any_map : {X Y : Type 0} (p : Y → Bool) (f : X → Y) (xs : List X)
    → list_any p (map f xs) ≡ list_any (λ x. p (f x)) xs
any_map p f [] = refl
any_map p f (x ∷ xs) = ap (λ b. p (f x) || b) (any_map p f xs)

pub any_flat_map : {X Y : Type 0} (p : Y → Bool) (f : X → List Y) (xs : List X)
    → list_any p (flat_map f xs) ≡ list_any (λ x. list_any p (f x)) xs
any_flat_map p f [] = refl
any_flat_map p f (x ∷ xs) =
    list_any-append p (f x) (flat_map f xs) ∙ ap (λ b. list_any p (f x) || b) (any_flat_map p f xs)

-- a test with one of its own in all elements
pub any_and : {X : Type 0} (p : X → Bool) (c : Bool) (xs : List X)
    → list_any (λ x. p x && c) xs ≡ (list_any p xs && c)
any_and p true xs = any_agree (λ x. p x && true) p (λ x. and-true (p x)) xs
    ∙ sym (and-true (list_any p xs))
any_and p false [] = refl
any_and p false (x ∷ xs) = grind (arith, common_steps, any_and p false xs, and-false)

-- of the numbers, only e counts
pub any_at : (e : ℕ) (t : ℕ → Bool) (xs : List ℕ)
    → list_any (λ k. (k == e) && t k) xs ≡ (list_any (λ k. k == e) xs && t e)
any_at e t xs =
    any_agree (λ k. (k == e) && t k) (λ k. (k == e) && t e) (λ k. there k (k == e) refl) xs
    ∙ any_and (λ k. k == e) (t e) xs
  where
    there : (k : ℕ) (b : Bool) → (k == e) ≡ b → (b && t k) ≡ (b && t e)
    there k true h = ap t (eqb-true k e h)
    there k false h = refl

-- some element of a list without its repeats passes exactly if one of the list does
pub any_dedup : {X : Type 0} (same : X → X → Bool)
    → ((xs : List X) (x : X) → Contains xs x → Contains (dedup same xs) x) → (p : X → Bool)
    (xs : List X) → list_any p (dedup same xs) ≡ list_any p xs
any_dedup {X} same kept p xs =
    same_tests (list_any p (dedup same xs)) (list_any p xs)
    (moved (dedup same xs) xs (Contains-from_dedup same xs)) (moved xs (dedup same xs) (kept xs))
  where
    moved : (xs ys : List X) → ((x : X) → Contains xs x → Contains ys x) → list_any p xs ≡ true
        → list_any p ys ≡ true
    moved xs ys keeps h =
        let any = Any-from_list_any p xs h in
        let there = keeps any.1 (any.0, any.2, any.3) in
        list_any_at p ys there.0 any.1 there.1 (ap p there.2 ∙ any.4)

-- an element fails
pub all_fails : {X : Type 0} (p : X → Bool) (xs : List X) (y : X) (ys : List X) → p y ≡ false
    → list_all p (xs ++ y ∷ ys) ≡ false
all_fails p [] y ys other = rw other refl
all_fails p (x ∷ xs) y ys other = rw (all_fails p xs y ys other) (and-false (p x))

clash : true ≡ false → ⊥
clash e = absurd cc

-- two lists of equal numbers
pub pointwise_itself : (xs : List ℕ) → pointwise nat_eq xs xs ≡ true
pointwise_itself [] = refl
pointwise_itself (x ∷ xs) =
    ap (λ b. b && pointwise nat_eq xs xs) (eq-eqb x x refl) ∙ pointwise_itself xs

pub same_pointwise : (xs ys : List ℕ) → pointwise nat_eq xs ys ≡ true → xs ≡ ys
same_pointwise [] [] equal = refl
same_pointwise [] (y ∷ ys) equal = absurd (clash (sym equal))
same_pointwise (x ∷ xs) [] equal = absurd (clash (sym equal))
same_pointwise (x ∷ xs) (y ∷ ys) equal = search (rules, and_parts, eqb-true)

-- numbers that pass a test are not one that fails it
pub all_apart : (p : ℕ → Bool) (c : ℕ) → p c ≡ false → (xs : List ℕ) → list_all p xs ≡ true
    → AllByRecursion (λ b. b ≢ c) xs
all_apart p c fails [] e = tt
all_apart p c fails (x ∷ xs) e =
    let parts = and_parts (p x) (list_all p xs) e in
    (λ same. true≢false (sym parts.0 ∙ ap p same ∙ fails), all_apart p c fails xs parts.1)
