-- The elements of a list by a number of each, its key.
use Rattle.exam_lists.proofs.Filters.{filter_false}
use Rattle.std.proofs.lemmas.Grind.{common_steps}
use Rattle.exam_lists.proofs.Each.{each_filter_passes, each_filter_weaker, each_weaker}
use Rattle.std.proofs.Common.{Bool, List, [], ap, arith, cond, eqb, false, filter, not, refl, subst, flat_map, map, true, ℕ, ◌&&◌, ◌++◌, ◌==◌, ◌∙◌, ◌∷◌, ◌≡◌, ◌≢◌, rules}
use Rattle.std.proofs.lemmas.Bool.{eq-eqb, eqb-true, not-true}
use Rattle.std.proofs.lemmas.Bool.Decides.{nat_tests}
use Rattle.std.specs.List.{AllByRecursion}

module _ {X : Type 0} (key : X → ℕ) (d : ℕ) where
  -- no row of the key is left
  pub none_of : (n : ℕ) → n ≡ d → (xs : List X)
      → filter (λ x. eqb (key x) n) (filter (λ x. not (eqb (key x) d)) xs) ≡ []
  none_of n e [] = refl
  none_of n e (x ∷ xs) = grind (arith, common_steps, none_of n e xs)

  -- all rows of another key are left
  pub all_of_other : (n : ℕ) → eqb n d ≡ false → (xs : List X)
      → filter (λ x. eqb (key x) n) (filter (λ x. not (eqb (key x) d)) xs)
      ≡ filter (λ x. eqb (key x) n) xs
  all_of_other n e [] = refl
  all_of_other n e (x ∷ xs) = grind (arith, common_steps, all_of_other n e xs)

  -- a fact about each row of another key holds for each row that is left
  pub each_left : (P Q : X → Type 0) → ((x : X) → P x → eqb (key x) d ≡ false → Q x)
      → (xs : List X) → AllByRecursion P xs
      → AllByRecursion Q (filter (λ x. not (eqb (key x) d)) xs)
  each_left P Q h xs a = search (rules, each_filter_weaker, not-true)

-- each element of a key has that key
pub all_of_key : {X : Type 0} (key : X → ℕ) (k : ℕ) (xs : List X)
    → AllByRecursion (λ x. key x ≡ k) (filter (λ x. eqb (key x) k) xs)
all_of_key key k xs = grind (arith, common_steps, each_filter_passes, each_weaker, eqb-true)

-- a fact of the elements of each key holds of all
pub each_key : {X : Type 0} (key : X → ℕ) (P : X → Type 0) (xs : List X)
    → ((k : ℕ) → AllByRecursion P (filter (λ x. eqb (key x) k) xs)) → AllByRecursion P xs
each_key key P [] each = tt
each_key {X} key P (x ∷ xs) each = (
  (subst (λ b. AllByRecursion P (cond b (x ∷ filter (λ y. eqb (key y) (key x)) xs)
      (filter (λ y. eqb (key y) (key x)) xs))) (eq-eqb (key x) (key x) refl) (each (key x))).0,
  each_key key P xs (λ k. rest k (eqb (key x) k) (each k)),
)
  where
    rest : (k : ℕ) (b : Bool) → AllByRecursion P (cond b (x ∷ filter (λ y. eqb (key y) k) xs)
        (filter (λ y. eqb (key y) k) xs)) → AllByRecursion P (filter (λ y. eqb (key y) k) xs)
    rest k true h = h.1
    rest k false h = h

-- the rows of one key after those of this or another key are deleted
pub key_removed : {X Y : Type 0} (key : X → ℕ) (f : X → Y) (d n : ℕ) (b : Bool) → eqb n d ≡ b
    → (xs : List X) → map f (filter (λ x. eqb (key x) n) (filter (λ x. not (eqb (key x) d)) xs))
    ≡ cond b [] (map f (filter (λ x. eqb (key x) n) xs))
key_removed key f d n true e xs = ap (map f) (none_of key d n (eqb-true n d e) xs)
key_removed key f d n false e xs = ap (map f) (all_of_other key d n e xs)

-- the same, with one row in place of the deleted ones
pub key_replaced : {X Y : Type 0} (key : X → ℕ) (f : X → Y) (x : X) (n : ℕ) (b : Bool)
    → eqb n (key x) ≡ b → (xs : List X)
    → map f (filter (λ y. eqb (key y) n) (x ∷ filter (λ y. not (eqb (key y) (key x))) xs))
    ≡ cond b (f x ∷ []) (map f (filter (λ y. eqb (key y) n) xs))
key_replaced key f x n true e xs =
    let passes : eqb (key x) n ≡ true = grind (arith, nat_tests, e) in
    let rest = filter (λ y. eqb (key y) n) (filter (λ y. not (eqb (key y) (key x))) xs) in
    ap (λ c. map f (cond c (x ∷ rest) rest)) passes
    ∙ ap (λ l. f x ∷ l) (key_removed key f (key x) n true e xs)
key_replaced key f x n false e xs =
    let fails : eqb (key x) n ≡ false = grind (arith, nat_tests, e) in
    let rest = filter (λ y. eqb (key y) n) (filter (λ y. not (eqb (key y) (key x))) xs) in
    ap (λ c. map f (cond c (x ∷ rest) rest)) fails ∙ key_removed key f (key x) n false e xs

-- ---- pairs of elements with the same key

module _ {X : Type 0} (key : X → ℕ) where
  -- no element has the key
  pub no_partner : (x : X) (xs : List X) → AllByRecursion (λ y. key x ≢ key y) xs
      → filter (λ y. key y == key x) xs ≡ []
  no_partner x [] all = refl
  no_partner x (y ∷ ys) all = grind (arith, common_steps, no_partner x ys all.1)

  module _ {Y : Type 0} (t : X → Bool) (f : X → X → Y) (xs : List X) where
    one_pair : (b : Bool) (x : X) → filter (λ y. key y == key x) xs ≡ x ∷ []
        → (rest : List Y) (later : List X) → rest ≡ map (λ z. f z z) later
        → map (f x) (filter (λ y. b && (key y == key x)) xs) ++ rest
        ≡ map (λ z. f z z) (cond b (x ∷ later) later)
    one_pair true x single rest later is =
        ap (λ l. map (f x) l ++ rest) single ∙ ap (λ l. f x x ∷ l) is
    one_pair false x single rest later is = ap (λ l. map (f x) l ++ rest) (filter_false xs) ∙ is

    -- if each has only itself as its partner, all pairs are those
    pub each_with_itself : (zs : List X)
        → AllByRecursion (λ x. filter (λ y. key y == key x) xs ≡ x ∷ []) zs
        → flat_map (λ x. map (f x) (filter (λ y. t x && (key y == key x)) xs)) zs
        ≡ map (λ x. f x x) (filter t zs)
    each_with_itself [] all = refl
    each_with_itself (x ∷ zs) all = one_pair (t x) x all.0 _ (filter t zs) (each_with_itself zs all.1)
