-- Strictly sorted lists: made, compared and searched.
use Rattle.std.proofs.lemmas.Grind.{common_steps}
use Rattle.exam_lists.proofs.Chains.{IsChain}
use Rattle.exam_lists.proofs.Each.{each_append}
use Rattle.exam_lists.proofs.Members.{contains_head, contains_later, first_or_later, none_in_nil}
use Rattle.std.proofs.Common.{Bool, Contains, Less, List, None, Option, Ordering, Some, [], ap, ap₂, false, inl, inr, refl, sym, true, ◌++◌, ◌∙◌, ◌∷◌, ◌≡◌, ◌⊎◌, arith, get_or, is_lt, length, map, subst₂, ℕ, ◌+◌, ◌<◌}
use Rattle.std.proofs.lemmas.List.Elements.{All-contains, All-from_recursion}
use Rattle.std.specs.Cmp.{IsTotalOrder}
use Rattle.std.specs.List.{AllByRecursion, find}
use Rattle.std.specs.List.Sorted.{IsStrictlySortedBy}
use Rattle.std.specs.Prelude.{IsSortedByKey, slice_get}
use Rattle.std.proofs.lemmas.List.{get_or-map, length-map}

pub sorted_nil : {K : Type 0} (R : K → K → Ordering) → IsStrictlySortedBy R []
unfolding IsStrictlySortedBy
sorted_nil R = tt

pub sorted_cons : {K : Type 0} (R : K → K → Ordering) (x : K) (xs : List K)
    → AllByRecursion (λ y. R x y ≡ Less) xs → IsStrictlySortedBy R xs
    → IsStrictlySortedBy R (x ∷ xs)
unfolding IsStrictlySortedBy
sorted_cons R x xs above up = (above, up)

pub sorted_append : {K : Type 0} (R : K → K → Ordering) (xs ys : List K) → IsStrictlySortedBy R xs
    → IsStrictlySortedBy R ys → AllByRecursion (λ x. AllByRecursion (λ y. R x y ≡ Less) ys) xs
    → IsStrictlySortedBy R (xs ++ ys)
unfolding IsStrictlySortedBy
sorted_append R [] ys a b h = b
sorted_append R (x ∷ xs) ys a b h =
    (each_append (λ y. R x y ≡ Less) xs ys a.0 h.0, sorted_append R xs ys a.1 b h.1)

-- each element is less than all later ones
pub chain_from_sorted : {K : Type 0} (R : K → K → Ordering) (xs : List K) → IsStrictlySortedBy R xs
    → IsChain (λ x y. R x y ≡ Less) xs
unfolding IsStrictlySortedBy
chain_from_sorted R [] up = tt
chain_from_sorted R (x ∷ xs) up = (up.0, chain_from_sorted R xs up.1)

-- two lists that are strictly sorted and have the same elements are equal
pub same_sorted : {K : Type 0} {R : K → K → Ordering} → IsTotalOrder R → (xs ys : List K)
    → IsStrictlySortedBy R xs → IsStrictlySortedBy R ys
    → ((x : K) → Contains xs x → Contains ys x)
    → ((x : K) → Contains ys x → Contains xs x) → xs ≡ ys
unfolding IsStrictlySortedBy
same_sorted o [] [] a b to from = refl
same_sorted o [] (y ∷ ys) a b to from = absurd (none_in_nil (from y (contains_head y ys)))
same_sorted o (x ∷ xs) [] a b to from = absurd (none_in_nil (to x (contains_head x xs)))
same_sorted {K} {R} o (x ∷ xs) (y ∷ ys) a b to from =
    let same : x ≡ y = elim (first_or_later y ys x (to x (contains_head x xs))) as (λ _. x ≡ y) [
      | inl e ↦ sym e
      | inr later ↦ elim (first_or_later x xs y (from y (contains_head y ys))) as (λ _. x ≡ y)
          [ inl e ↦ e | inr back ↦ absurd (clash o x y (below R y ys x b.0 later) (below R x xs y a.0 back)) ]
    ] in
    ap₂ (λ z zs. z ∷ zs) same
    (same_sorted o xs ys a.1 b.1
    (λ z h. keep o x y xs ys z same a.0 h (to z (contains_later x xs z h)))
    (λ z h. keep o y x ys xs z (sym same) b.0 h (from z (contains_later y ys z h))))
  where
    below : (R : K → K → Ordering) (x : K) (xs : List K) (z : K)
        → AllByRecursion (λ y. R x y ≡ Less) xs → Contains xs z → R x z ≡ Less
    below R x xs z h k =
        All-contains (λ y. R x y ≡ Less) xs z (All-from_recursion (λ y. R x y ≡ Less) xs h) k

    clash : IsTotalOrder R → (x y : K) → R y x ≡ Less → R x y ≡ Less → ⊥
    clash o x y p q = grind (arith, common_steps)

    keep : IsTotalOrder R → (x y : K) (xs ys : List K) (z : K) → x ≡ y
        → AllByRecursion (λ y. R x y ≡ Less) xs → Contains xs z
        → Contains (y ∷ ys) z → Contains ys z
    keep o x y xs ys z same above h k =
        elim (first_or_later y ys z k) as (λ _. Contains ys z) [
          | inr later ↦ later
          | inl e ↦ (let less : R x z ≡ Less = below R x xs z above h in
              absurd (clash o x x (ap (R x) (same ∙ e) ∙ less) (ap (R x) (same ∙ e) ∙ less)))
        ]

-- an element that no other comes before is the first
pub sorted_head : {X : Type 0} (R : X → X → Ordering) (first : X) (xs : List X) → IsStrictlySortedBy R xs
    → Contains xs first → ((x : X) → Contains xs x → R x first ≡ Less → ⊥)
    → slice_get xs 0 ≡ Some first
unfolding IsStrictlySortedBy
sorted_head R first [] up there least = absurd (none_in_nil there)
sorted_head R first (x ∷ xs) up there least =
    elim (first_or_later x xs first there) as (λ _. slice_get (x ∷ xs) 0 ≡ Some first) [
      | inl same ↦ ap Some same
      | inr later ↦
          absurd (least x (contains_head x xs)
          (All-contains (λ y. R x y ≡ Less) xs first
          (All-from_recursion (λ y. R x y ≡ Less) xs up.0) later))
    ]

-- no element passes, or this one passes and comes before all others that do
abbrev pub IsFirst : {X : Type 0} → (X → X → Ordering) → (X → Bool) → List X → Option X → Type 0
IsFirst R p xs None = (y : _) → Contains xs y → p y ≡ false
IsFirst R p xs (Some x) =
    Contains xs x × (p x ≡ true) × ((y : _) → Contains xs y → p y ≡ true → (y ≡ x) ⊎ (R x y ≡ Less))

-- the first element found in a strictly sorted list
pub find_is_first : {X : Type 0} (R : X → X → Ordering) (p : X → Bool) (xs : List X)
    → IsStrictlySortedBy R xs
    → IsFirst R p xs (find p xs)
unfolding IsStrictlySortedBy
find_is_first R p [] up = λ y h. absurd (none_in_nil h)
find_is_first {X} R p (x ∷ xs) up =
    grind (
      arith,
      common_steps,
      find_is_first R p xs up.1,
      All-contains,
      All-from_recursion,
      contains_head,
      contains_later,
      first_or_later,
    )

-- lists with the same keys, in the same order, are both sorted or neither is
pub sorted_by_alike : {R K : Type 0} (cmp : K → K → Ordering) (key : R → K) (xs ys : List R)
    → map key xs ≡ map key ys → IsSortedByKey key cmp xs → IsSortedByKey key cmp ys
sorted_by_alike {R} cmp key xs ys same up =
    λ k d low within.
    let long : length xs ≡ length ys =
    sym (length-map xs key) ∙ ap length same ∙ length-map ys key in
    subst₂ (λ m n. is_lt (cmp m n) ≡ false) (at (k + 1) d (omega (arith, long)) within)
    (at k d (omega (arith, long)) (omega arith)) (up k d low (omega (arith, long)))
  where
    at : (k : ℕ) (d : R) → k < length xs → k < length ys
        → key (get_or xs k d) ≡ key (get_or ys k d)
    at k d here there =
        sym (get_or-map key xs k d (key d) here) ∙ ap (λ l. get_or l k (key d)) same
        ∙ get_or-map key ys k d (key d) there

-- if the images are sorted, so are the elements
pub sorted_by_map : {R X K : Type 0} (cmp : K → K → Ordering) (key : X → K) (row : R → X)
    (records : List R) → IsSortedByKey key cmp (map row records)
    → IsSortedByKey (λ r. key (row r)) cmp records
sorted_by_map cmp key row records up =
    λ k d low within.
    let long = length-map records row in
    subst₂ (λ m n. is_lt (cmp m n) ≡ false)
    (ap key (get_or-map row records (k + 1) d (row d) within))
    (ap key (get_or-map row records k d (row d) (omega arith)))
    (up k (row d) low (omega (arith, long)))
