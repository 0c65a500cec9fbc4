-- Filters of a list in another order, and lists of at most one element.
use Rattle.std.proofs.lemmas.Grind.{common_steps}
use Rattle.std.proofs.Common.{All, Bool, IsPermutation, List, [], ap, append_assoc, arith, cond, false, filter, get_or, if◌then◌else◌, length, map, refl, set, subst, suc, true, true≢false, zero, ℕ, ◌++◌, ◌<◌, ◌||◌, ◌∷◌, ◌≡◌, ◌≤◌, reverse}
use Rattle.std.proofs.lemmas.List.{nil_from_length}
use Rattle.std.proofs.lemmas.List.Sorted.{All-permutation, IsPermutation-append_left, IsPermutation-cons, IsPermutation-keeps, IsPermutation-map, IsPermutation-middle, IsPermutation-refl, IsPermutation-sym, IsPermutation-to_front, IsPermutation-trans, length_permutation, IsPermutation-reverse, IsPermutation-append}
use Rattle.std.specs.List.{AllByRecursion}
use Rattle.std.specs.Prelude.{swap}
use Rattle.std.proofs.lemmas.List.Elements.{All-from_recursion, recursion_from_All}
use Rattle.exam_lists.proofs.Chains.{IsChain}
use Rattle.exam_lists.proofs.Maps.{map_back}

-- a relation holds along each permutation if it is reflexive and transitive, and goes under a first
-- element and over an exchange of the first two
module _ {X : Type 0} (R : List X → List X → Type 0) (same : (xs : List X) → R xs xs)
    (under : (x : X) (xs ys : List X) → R xs ys → R (x ∷ xs) (x ∷ ys))
    (turned : (x y : X) (xs : List X) → R (x ∷ y ∷ xs) (y ∷ x ∷ xs))
    (chained : (xs ys zs : List X) → R xs ys → R ys zs → R xs zs) where
  -- the first element and a later one change places
  with_first : (xs : List X) (j : ℕ) (x d : X) → j < length xs
      → R (x ∷ xs) (get_or xs j d ∷ set xs j x)
  with_first [] j x d lt = absurd (omega arith)
  with_first (y ∷ ys) zero x d lt = turned x y ys
  with_first (y ∷ ys) (suc j) x d lt =
      let other : X = get_or ys j d in
      chained (x ∷ y ∷ ys) (y ∷ x ∷ ys) (other ∷ y ∷ set ys j x) (turned x y ys)
      (chained (y ∷ x ∷ ys) (y ∷ other ∷ set ys j x) (other ∷ y ∷ set ys j x)
      (under y (x ∷ ys) (other ∷ set ys j x) (with_first ys j x d (omega arith)))
      (turned y other (set ys j x)))

  exchanged : (xs : List X) (i j : ℕ) (d : X) → i < length xs → j < length xs
      → R xs (set (set xs i (get_or xs j d)) j (get_or xs i d))
  exchanged [] i j d lt within = absurd (omega arith)
  exchanged (x ∷ xs) zero zero d lt within = same (x ∷ xs)
  exchanged (x ∷ xs) zero (suc j) d lt within = with_first xs j x d (omega arith)
  exchanged (x ∷ xs) (suc i) zero d lt within = with_first xs i x d (omega arith)
  exchanged (x ∷ xs) (suc i) (suc j) d lt within =
      grind (arith, common_steps, exchanged xs i j d (omega arith) (omega arith), under)

  swapped : (xs : List X) (i j : ℕ) → i < length xs → j < length xs → R xs (swap xs i j)
  swapped [] i j lt within = absurd (omega arith)
  swapped (x ∷ xs) i j lt within = exchanged (x ∷ xs) i j x lt within

  pub along_permutation : (xs ys : List X) → IsPermutation xs ys → R xs ys
  along_permutation xs =
      IsPermutation-keeps xs (R xs) (same xs)
      (λ zs i j lt within h. chained xs zs (swap zs i j) h (swapped zs i j lt within))

-- a permutation, filtered, is one
pub IsPermutation-filter : {X : Type 0} (p : X → Bool) (xs ys : List X) → IsPermutation xs ys
    → IsPermutation (filter p xs) (filter p ys)
IsPermutation-filter {X} p =
    along_permutation (λ xs ys. IsPermutation (filter p xs) (filter p ys))
    (λ xs. IsPermutation-refl (filter p xs)) under turned
    (λ xs ys zs. IsPermutation-trans (filter p xs) (filter p ys) (filter p zs))
  where
    under : (x : X) (xs ys : List X) → IsPermutation (filter p xs) (filter p ys)
        → IsPermutation (filter p (x ∷ xs)) (filter p (x ∷ ys))
    under x xs ys h = grind (arith, common_steps, IsPermutation-cons)

    turned : (x y : X) (xs : List X)
        → IsPermutation (filter p (x ∷ y ∷ xs)) (filter p (y ∷ x ∷ xs))
    turned x y xs =
        let fs : List X = filter p xs in
        elim (p x) as (λ b. IsPermutation
        (if b then x ∷ (if p y then y ∷ fs else fs) else (if p y then y ∷ fs else fs))
        (if p y then y ∷ (if b then x ∷ fs else fs) else (if b then x ∷ fs else fs))) [
          | true ↦ elim (p y) as (λ b. IsPermutation
              (x ∷ (if b then y ∷ fs else fs)) (if b then y ∷ x ∷ fs else x ∷ fs)) [
                | true ↦ IsPermutation-middle (x ∷ []) y fs
                | false ↦ IsPermutation-refl (x ∷ fs)
              ]
          | false ↦ IsPermutation-refl (if p y then y ∷ fs else fs)
        ]

-- each to all later ones is each to all others, if the relation goes both ways
pub chain_permutation : {X : Type 0} (R : X → X → Type 0) → ((x y : X) → R x y → R y x)
    → (xs ys : List X) → IsPermutation xs ys → IsChain R xs → IsChain R ys
chain_permutation {X} R turned xs ys moved =
    (along_permutation (λ xs ys. IsPermutation xs ys × (IsChain R xs → IsChain R ys))
    (λ xs. (IsPermutation-refl xs, λ c. c))
    (λ x xs ys h. (
      IsPermutation-cons x xs ys h.0,
      λ c. (each_permutation (R x) xs ys h.0 c.0, h.1 c.1),
    ))
    (λ x y xs. (
      IsPermutation-middle (x ∷ []) y xs,
      λ c. ((turned x y c.0.0, c.1.0), (c.0.1, c.1.1)),
    ))
    (λ xs ys zs h k. (IsPermutation-trans xs ys zs h.0 k.0, λ c. k.1 (h.1 c)))
    xs ys moved).1
  where
    each_permutation : (P : X → Type 0) (xs ys : List X) → IsPermutation xs ys
        → AllByRecursion P xs → AllByRecursion P ys
    each_permutation P xs ys same h =
        recursion_from_All P ys (All-permutation P xs ys same (All-from_recursion P xs h))

-- the elements that pass one of two tests that exclude each other
pub IsPermutation-filter_or : {X : Type 0} (f g : X → Bool) (xs : List X)
    → ((x : X) → f x ≡ true → g x ≡ false)
    → IsPermutation (filter (λ x. f x || g x) xs) (filter f xs ++ filter g xs)
IsPermutation-filter_or f g [] other = IsPermutation-refl []
IsPermutation-filter_or {X} f g (x ∷ xs) other =
    go (f x) (g x) (other x) (IsPermutation-filter_or f g xs other)
  where
    both : List X
    both = filter (λ x. f x || g x) xs

    go : (a b : Bool) → (a ≡ true → b ≡ false)
        → IsPermutation both (filter f xs ++ filter g xs)
        → IsPermutation (cond (a || b) (x ∷ both) both)
        (cond a (x ∷ filter f xs) (filter f xs) ++ cond b (x ∷ filter g xs) (filter g xs))
    go true true only more = absurd (true≢false (only refl))
    go true false only more = IsPermutation-cons x _ _ more
    go false true only more =
        IsPermutation-trans _ _ _ (IsPermutation-cons x _ _ more)
        (IsPermutation-sym _ _ (subst (λ l. IsPermutation l (x ∷ (filter f xs ++ filter g xs)))
        (append_assoc (filter f xs) (x ∷ []) (filter g xs))
        (IsPermutation-append_left (filter g xs) (filter f xs ++ x ∷ []) (x ∷ filter f xs)
        (IsPermutation-to_front (filter f xs) x))))
    go false false only more = more

-- of no element, and of at most one
pub IsPermutation-nil : {X : Type 0} (xs : List X) → IsPermutation xs [] → xs ≡ []
IsPermutation-nil [] p = refl
IsPermutation-nil (x ∷ xs) p = absurd (let long = length_permutation _ _ p in omega (arith, long))

pub same_one : {X : Type 0} (x y : X) → IsPermutation (x ∷ []) (y ∷ []) → y ≡ x
same_one x y p = All-permutation (λ z. z ≡ x) (x ∷ []) (y ∷ []) p one 0 x (omega arith)
  where
    one : All (λ z. z ≡ x) (x ∷ [])
    one zero d h = refl
    one (suc k) d h = absurd (omega (arith, h))

pub same_few : {X : Type 0} (xs ys : List X) → length xs ≤ 1 → IsPermutation xs ys → ys ≡ xs
same_few [] ys few p = nil_from_length ys (length_permutation _ _ p)
same_few (x ∷ z ∷ xs) ys few p = absurd (omega arith)
same_few (x ∷ []) [] few p = absurd (let long = length_permutation _ _ p in omega (arith, long))
same_few (x ∷ []) (y ∷ []) few p = ap (λ w. w ∷ []) (same_one x y p)
same_few (x ∷ []) (y ∷ z ∷ ys) few p =
    absurd (let long = length_permutation _ _ p in omega (arith, long))

-- the values of at most one element
pub few_read : {X Y : Type 0} (f : X → Y) (xs ys : List X) (zs : List Y) → IsPermutation xs ys
    → map f xs ≡ zs → length zs ≤ 1 → map f ys ≡ zs
few_read f xs ys zs p is few = grind (arith, common_steps, IsPermutation-map, same_few)

-- rows of the same values, if a value is read back from its row
pub IsPermutation-unmap : {X Y : Type 0} (row : X → Y) (back : Y → X) → ((x : X) → back (row x) ≡ x)
    → (xs ys : List X) → IsPermutation (map row xs) (map row ys) → IsPermutation xs ys
IsPermutation-unmap row back is xs ys moved =
    subst (λ l. IsPermutation l ys) (map_back row back is xs)
    (subst (IsPermutation (map back (map row xs))) (map_back row back is ys)
    (IsPermutation-map back _ _ moved))

pub same_few_as : {X : Type 0} (xs few ys : List X) → xs ≡ few → length few ≤ 1
    → IsPermutation xs ys → ys ≡ few
same_few_as xs few ys is short moved = same_few few ys short (subst (λ l. IsPermutation l ys) is moved)

-- rows that are inserted, one after the other
pub IsPermutation-reverse_as : {X : Type 0} (rows xs : List X) → rows ≡ xs
    → IsPermutation (reverse rows) xs
IsPermutation-reverse_as rows xs is =
    subst (IsPermutation (reverse rows)) is (IsPermutation-sym _ _ (IsPermutation-reverse rows))

-- inserted rows in front of the rows that are left after a delete
pub IsPermutation-reverse_over : {X Y : Type 0} (left : List Y → List X) (gone who : List Y)
    (rows xs : List X) → gone ≡ who → rows ≡ xs
    → IsPermutation (reverse rows ++ left gone) (xs ++ left who)
IsPermutation-reverse_over left gone who rows xs same is =
    IsPermutation-append _ _ _ _ (IsPermutation-reverse_as rows xs is)
    (subst (λ l. IsPermutation (left gone) (left l)) same (IsPermutation-refl (left gone)))
