-- Lists each of whose elements is related to all later ones.
use Rattle.std.proofs.lemmas.Grind.{common_steps}
use Rattle.exam_lists.proofs.Each.{each_at_middle, each_both, each_filter, each_filter_map, each_map, each_push, each_unmap, each_weaker}
use Rattle.std.proofs.Common.{AllPairs, Bool, List, None, Option, Some, [], add-one, arith, filter, filter_map, get_or, length, map, suc, ℕ, ◌++◌, ◌+◌, ◌<◌, ◌∷◌, ◌≡◌, ◌≤◌}
use Rattle.std.proofs.lemmas.List.Elements.{All-from_recursion, recursion_from_All}
use Rattle.std.proofs.lemmas.List.Kept.{AllPairs-cons}
use Rattle.std.specs.List.{AllByRecursion, cons_option}
use Rattle.std.specs.Prelude.{IfSome}

-- each element is R to all later ones
abbrev pub IsChain : {X : Type 0} → (X → X → Type 0) → List X → Type 0
IsChain R [] = Unit {0}
IsChain R (x ∷ xs) = AllByRecursion (R x) xs × IsChain R xs

pub chain_weaker : {X : Type 0} (R S : X → X → Type 0) → ((x y : X) → R x y → S x y) → (xs : List X)
    → IsChain R xs → IsChain S xs
chain_weaker R S h [] a = tt
chain_weaker R S h (x ∷ xs) a = (each_weaker (R x) (S x) (h x) xs a.0, chain_weaker R S h xs a.1)

-- by indexes
pub chain_from_index : {X : Type 0} (R : X → X → Type 0) (xs : List X)
    → AllPairs R xs → IsChain R xs
chain_from_index R [] h = tt
chain_from_index R (x ∷ xs) h = (
  recursion_from_All (R x) xs (λ j d l. h 0 (suc j) d (omega arith) (omega arith)),
  chain_from_index R xs (λ i j d l m. h (suc i) (suc j) d (omega arith) (omega arith)),
)

pub index_from_chain : {X : Type 0} (R : X → X → Type 0) (xs : List X)
    → IsChain R xs → AllPairs R xs
index_from_chain R [] h = λ i j d l m. absurd (omega arith)
index_from_chain R (x ∷ xs) h =
    AllPairs-cons R x xs (All-from_recursion (R x) xs h.0) (index_from_chain R xs h.1)

-- from each element and the next
pub chain_from_next : {X : Type 0} (R : X → X → Type 0) → ((x y z : X) → R x y → R y z → R x z)
    → (xs : List X)
    → ((k : ℕ) (d : X) → k + 1 < length xs → R (get_or xs k d) (get_or xs (k + 1) d))
    → IsChain R xs
chain_from_next R trans [] next = tt
chain_from_next R trans (x ∷ []) next = (tt, tt)
chain_from_next R trans (x ∷ y ∷ xs) next =
    let rest = chain_from_next R trans (y ∷ xs)
    (λ k d within. rw add-one (rw add-one at (next (suc k) d (omega arith)))) in
    let first : R x y = next 0 x (omega arith) in
    ((first, each_weaker (R y) (R x) (λ z h. trans x y z first h) xs rest.0), rest)

-- from a fact of each element
pub chain_from_each : {X : Type 0} (P : X → Type 0) (R : X → X → Type 0)
    → ((x y : X) → P x → P y → R x y) → (xs : List X) → AllByRecursion P xs → IsChain R xs
chain_from_each P R h [] a = tt
chain_from_each P R h (x ∷ xs) a =
    (each_weaker P (R x) (λ y k. h x y a.0 k) xs a.1, chain_from_each P R h xs a.1)

-- a chain whose elements all satisfy a condition
pub chain_with_each : {X : Type 0} (P : X → Type 0) (R : X → X → Type 0) (xs : List X)
    → AllByRecursion P xs → IsChain R xs
    → IsChain (λ x y. P x × (P y × R x y)) xs
chain_with_each P R [] a h = tt
chain_with_each P R (x ∷ xs) a h = (
  each_weaker (λ y. P y × R x y) (λ y. P x × (P y × R x y)) (λ y k. (a.0, k)) xs
      (each_both P (R x) xs a.1 h.0),
  chain_with_each P R xs a.1 h.1,
)

pub chain_push : {X : Type 0} (R : X → X → Type 0) (xs : List X) (y : X) → IsChain R xs
    → AllByRecursion (λ x. R x y) xs → IsChain R (xs ++ y ∷ [])
chain_push R [] y h k = (tt, tt)
chain_push R (x ∷ xs) y h k = (each_push (R x) xs y h.0 k.0, chain_push R xs y h.1 k.1)

-- of the values of a function
pub chain_map : {X Y : Type 0} (R : Y → Y → Type 0) (f : X → Y) (xs : List X)
    → IsChain (λ x y. R (f x) (f y)) xs → IsChain R (map f xs)
chain_map R f [] h = tt
chain_map R f (x ∷ xs) h = (each_map (R (f x)) f xs h.0, chain_map R f xs h.1)

pub chain_unmap : {X Y : Type 0} (R : Y → Y → Type 0) (f : X → Y) (xs : List X) → IsChain R (map f xs)
    → IsChain (λ x y. R (f x) (f y)) xs
chain_unmap R f [] h = tt
chain_unmap R f (x ∷ xs) h = (each_unmap (R (f x)) f xs h.0, chain_unmap R f xs h.1)

-- of the elements that pass a test
pub chain_filter : {X : Type 0} (R : X → X → Type 0) (t : X → Bool) (xs : List X) → IsChain R xs
    → IsChain R (filter t xs)
chain_filter R t [] h = tt
chain_filter R t (x ∷ xs) h = grind (arith, common_steps, chain_filter R t xs h.1, each_filter)

pub chain_filter_map : {X Y : Type 0} (R : Y → Y → Type 0) (f : X → Option Y) (xs : List X)
    → IsChain (λ x y. IfSome (f x) (λ r. IfSome (f y) (R r))) xs → IsChain R (filter_map f xs)
chain_filter_map R f [] h = tt
chain_filter_map {X} R f (x ∷ xs) h = go (f x) h.0 (chain_filter_map R f xs h.1)
  where
    go : (o : Option _) → AllByRecursion (λ (y : X). IfSome o (λ r. IfSome (f y) (R r))) xs
        → IsChain R (filter_map f xs) → IsChain R (cons_option o (filter_map f xs))
    go None k more = more
    go (Some r) k more = (each_filter_map (R r) f xs k, more)

-- the elements before one, and those after it
pub chain_before : {X : Type 0} (R : X → X → Type 0) (xs : List X) (y : X) (ys : List X)
    → IsChain R (xs ++ y ∷ ys) → AllByRecursion (λ x. R x y) xs
chain_before R [] y ys h = tt
chain_before R (x ∷ xs) y ys h = (each_at_middle (R x) xs y ys h.0, chain_before R xs y ys h.1)

pub chain_after : {X : Type 0} (R : X → X → Type 0) (xs : List X) (y : X) (ys : List X)
    → IsChain R (xs ++ y ∷ ys) → AllByRecursion (R y) ys
chain_after R [] y ys h = h.0
chain_after R (x ∷ xs) y ys h = chain_after R xs y ys h.1

-- increasing numbers from a on and below n are at most n - a
pub chain_length : (a n : ℕ) (xs : List ℕ) → a ≤ n → IsChain (λ x y. x < y) xs
    → AllByRecursion (λ x. a ≤ x) xs → AllByRecursion (λ x. x < n) xs → length xs + a ≤ n
chain_length a n [] low up above below = omega arith
chain_length a n (x ∷ xs) low up above below =
    let first : a ≤ x = above.0 in
    let last : x < n = below.0 in
    let more = chain_length (a + 1) n xs (omega arith) up.1
    (each_weaker (λ y. x < y) (λ y. a + 1 ≤ y) (λ y h. omega arith) xs up.0) below.1 in
    omega arith

pub chain_cons_option : {Y : Type 0} (key : Y → ℕ) (n : ℕ) (o : Option Y) (ys : List Y)
    → IfSome o (λ y. key y ≡ n) → AllByRecursion (λ y. n < key y) ys
    → IsChain (λ x y. key x < key y) ys → IsChain (λ x y. key x < key y) (cons_option o ys)
chain_cons_option key n None ys is above up = up
chain_cons_option key n (Some y) ys is above up =
    (each_weaker (λ z. n < key z) (λ z. key y < key z) (λ z h. omega (arith, is, h)) ys above, up)
