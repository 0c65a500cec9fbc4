-- What a filter keeps.
use Rattle.std.proofs.Common.{Bool, List, [], ap, arith, eqb, false, filter, length, map, not, refl, true, ℕ, ◌&&◌, ◌<◌, ◌||◌, ◌∷◌, ◌≡◌, ◌≤◌, Option, filter_map, rules}
use Rattle.std.proofs.Math.Bool.{and_comm}
use Rattle.std.specs.List.{AllByRecursion}
use Rattle.std.proofs.lemmas.Grind.{common_steps}

pub length_filter-le : {X : Type 0} (t : X → Bool) (xs : List X) → length (filter t xs) ≤ length xs
length_filter-le t [] = omega arith
length_filter-le t (x ∷ xs) = grind (arith, common_steps, length_filter-le t xs)

-- every element passes
pub filter_every : {X : Type 0} (p : X → Bool) (xs : List X) → ((x : X) → p x ≡ true) → filter p xs ≡ xs
filter_every p [] h = refl
filter_every p (x ∷ xs) h = rw (h x) (ap (λ l. x ∷ l) (filter_every p xs h))

-- tests that always pass, or fail
pub filter_true : {X : Type 0} (xs : List X) → filter (λ _. true) xs ≡ xs
filter_true xs = filter_every (λ _. true) xs (λ _. refl)

pub filter_false : {X : Type 0} (xs : List X) → filter (λ _. false) xs ≡ []
filter_false [] = refl
filter_false (x ∷ xs) = filter_false xs

-- all numbers are above c
pub filter_eqb_above : (c : ℕ) (ss : List ℕ) → AllByRecursion (λ t. c < t) ss
    → filter (λ t. eqb t c) ss ≡ []
filter_eqb_above c [] a = refl
filter_eqb_above c (t ∷ ss) a = grind (arith, common_steps, filter_eqb_above c ss a.1)

-- two filters are one
pub filter-filter : {X : Type 0} (p q : X → Bool) (xs : List X)
    → filter p (filter q xs) ≡ filter (λ x. q x && p x) xs
filter-filter p q [] = refl
filter-filter p q (x ∷ xs) = grind (arith, common_steps, filter-filter p q xs)

pub filter_not-filter_not : {X : Type 0} (p q : X → Bool) (xs : List X)
    → filter (λ x. not (q x)) (filter (λ x. not (p x)) xs) ≡ filter (λ x. not (p x || q x)) xs
filter_not-filter_not p q xs = grind (arith, common_steps, filter-filter)

-- two filters, in either order
pub filter_swap : {X : Type 0} (p q : X → Bool) (xs : List X)
    → filter p (filter q xs) ≡ filter q (filter p xs)
filter_swap p q xs = search (rules, and_comm, filter-filter)

-- a filter after a map is a filter before it
pub filter-map : {X Y : Type 0} (p : Y → Bool) (f : X → Y) (xs : List X)
    → filter p (map f xs) ≡ map f (filter (λ x. p (f x)) xs)
filter-map p f [] = refl
filter-map {X} {Y} p f (x ∷ xs) = grind (arith, common_steps, filter-map p f xs)

-- two functions that agree on the elements that pass
pub map_filter_agree : {X Y : Type 0} (f g : X → Y) (p : X → Bool) → ((x : X) → p x ≡ true → f x ≡ g x)
    → (xs : List X) → map f (filter p xs) ≡ map g (filter p xs)
map_filter_agree f g p same [] = refl
map_filter_agree f g p same (x ∷ xs) = grind (arith, common_steps, map_filter_agree f g p same xs)

pub length_filter_map-le : {X Y : Type 0} (f : X → Option Y) (xs : List X)
    → length (filter_map f xs) ≤ length xs
length_filter_map-le f [] = omega arith
length_filter_map-le f (x ∷ xs) = grind (arith, common_steps, length_filter_map-le f xs)
