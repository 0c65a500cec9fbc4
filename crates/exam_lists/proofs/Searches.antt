-- The first element that passes, and the element at an index.
use Rattle.std.proofs.lemmas.Grind.{common_steps}
use Rattle.std.proofs.Common.{Bool, List, None, Option, Some, [], ap, arith, cond, false, get_or, length, length-append, refl, suc, sym, true, zero, ℕ, ◌++◌, ◌+◌, ◌<◌, ◌↔◌, ◌∙◌, ◌∷◌, ◌≡◌, ◌≤◌, Contains, add-zero, eqb, set, Err, Ok, Ordering, Result}
use Rattle.std.proofs.lemmas.Option.{none-some}
use Rattle.std.specs.List.{AllByRecursion, find, position_or_len, list_any}
use Rattle.std.specs.Prelude.{IfSome, IsSome, option_to_list, nat_lt, replicate, slice_get, is_ok}
use Rattle.std.proofs.lemmas.List.{get_or-set_other, get_or-set_same}
use Rattle.std.proofs.lemmas.Bool.{cases_lt}
use Rattle.std.proofs.lemmas.List.Folds.{list_any_at, list_any_none}
use Rattle.std.proofs.lemmas.List.Sorted.{searchable_from_sorted}
use Rattle.std.specs.Cmp.{IsTotalOrder}
use Rattle.std.specs.List.Sorted.{IsBinarySearchResult, IsSearchInRange, IsSortedBy}
use Rattle.std.specs.Ordering.{is_eq, is_lt}
use Rattle.exam_lists.proofs.Members.{contains_head}

-- no element passes
pub find_none : {X : Type 0} (t : X → Bool) (xs : List X)
    → ((k : ℕ) (d : X) → k < length xs → t (get_or xs k d) ≡ false) → find t xs ≡ None
find_none t [] h = refl
find_none {X} t (x ∷ xs) h =
    ap (λ b. cond b (Some x) (find t xs)) (h 0 x (omega arith))
    ∙ find_none t xs (λ k d lt. h (suc k) d (omega arith))

-- the element at an index passes, and none before it
pub find_one : {X : Type 0} (t : X → Bool) (xs : List X) (i : ℕ) (x : X) → i < length xs
    → x ≡ get_or xs i x → t x ≡ true
    → ((k : ℕ) (d : X) → k < i → t (get_or xs k d) ≡ false) → find t xs ≡ Some x
find_one t [] i x lt is here before = absurd (omega arith)
find_one t (y ∷ ys) zero x lt is here before =
    ap (λ b. cond b (Some y) (find t ys)) (ap t (sym is) ∙ here) ∙ ap (λ z. Some z) (sym is)
find_one t (y ∷ ys) (suc i) x lt is here before =
    ap (λ b. cond b (Some y) (find t ys)) (before 0 x (omega arith))
    ∙ find_one t ys i x (omega arith) is here (λ k d l. before (suc k) d (omega arith))

-- the element found passes, and satisfies the condition of all elements
pub find_keeps : {X : Type 0} (P : X → Type 0) (t : X → Bool) (xs : List X) → AllByRecursion P xs
    → IfSome (find t xs) (λ x. P x × (t x ≡ true))
find_keeps P t [] a = tt
find_keeps {X} P t (x ∷ xs) a = grind (arith, common_steps, find_keeps P t xs a.1)

pub position-le-length : {X : Type 0} (p : X → Bool) (xs : List X) → position_or_len p xs ≤ length xs
position-le-length p [] = omega arith
position-le-length p (x ∷ xs) = grind (arith, common_steps, position-le-length p xs)

-- a list without a first element is empty
pub slice_get_none : {X : Type 0} (xs : List X) → slice_get xs 0 ≡ None → xs ≡ []
slice_get_none [] h = refl
slice_get_none (x ∷ xs) h = absurd (none-some x (sym h))

-- the element at the end, and those before it
pub slice_get_push : {X : Type 0} (xs : List X) (x : X) (q : ℕ) → q ≡ length xs
    → slice_get (xs ++ x ∷ []) q ≡ Some x
slice_get_push [] x zero is = refl
slice_get_push [] x (suc q) is = absurd (omega arith)
slice_get_push (y ∷ ys) x zero is = absurd (omega arith)
slice_get_push (y ∷ ys) x (suc q) is = slice_get_push ys x q (omega arith)

pub slice_get_kept : {X : Type 0} (xs : List X) (x : X) (q : ℕ) → q < length xs
    → slice_get (xs ++ x ∷ []) q ≡ slice_get xs q
slice_get_kept [] x q lt = absurd (omega arith)
slice_get_kept (y ∷ ys) x zero lt = refl
slice_get_kept (y ∷ ys) x (suc q) lt = slice_get_kept ys x q (omega arith)

-- equal elements, the same past the end
pub get_or_same : {X : Type 0} (d : X) (n k : ℕ) → get_or (replicate n d) k d ≡ d
get_or_same d zero k = refl
get_or_same d (suc n) zero = refl
get_or_same d (suc n) (suc k) = get_or_same d n k

-- the element of a list of one
pub first_only : {X : Type 0} (xs : List X) (x : X) → length xs ≡ 1 → x ≡ get_or xs 0 x
    → xs ≡ x ∷ []
first_only [] x long first = absurd (omega (arith, long))
first_only (y ∷ []) x long first = ap (λ v. v ∷ []) (sym first)
first_only (y ∷ z ∷ xs) x long first = absurd (omega (arith, long))

-- the last element of a list of at most one
pub last_only : {X : Type 0} (xs rest : List X) (last : Option X) → xs ≡ rest ++ option_to_list last
    → IsSome last ↔ (0 < length xs) → length xs ≤ 1 → xs ≡ option_to_list last
last_only [] rest None is some few = refl
last_only (x ∷ xs) rest None is some few = let there = some.1 (omega arith) in cc
last_only xs [] (Some y) is some few = is
last_only xs (z ∷ rest) (Some y) is some few = grind (arith, common_steps, length-append)

pub slice_get_from_none : {X : Type 0} (xs : List X) → ((x : X) → Contains xs x → ⊥) → slice_get xs 0 ≡ None
slice_get_from_none [] none = refl
slice_get_from_none (x ∷ xs) none = absurd (none x (contains_head x xs))

-- one more number is marked
pub get_or_set_true : (before : List Bool) (k m n : ℕ) → k < length before
    → get_or before m false ≡ nat_lt 0 n
    → get_or (set before k true) m false ≡ nat_lt 0 (n + cond (eqb k m) 1 0)
get_or_set_true before k m n lt known =
    grind (arith, common_steps, add-zero, get_or-set_other, get_or-set_same)

-- a search finds an equal element exactly if there is one
pub search_finds_any : {X K : Type 0} (R : K → K → Ordering) (o : IsTotalOrder R) (key : X → K)
    (xs : List X) (x : K) (d : X) (r : Result ℕ ℕ)
    → IsSortedBy (λ a b. is_lt (R (key a) (key b))) xs
    → IsSearchInRange r (length xs) → IsBinarySearchResult (λ y. R (key y) x) xs r
    → is_ok r ≡ list_any (λ y. is_eq (R (key y) x)) xs
search_finds_any R o key xs x d (Ok i) sorted bound is =
    sym (list_any_at (λ y. is_eq (R (key y) x)) xs i d bound (ap is_eq (is d)))
search_finds_any R o key xs x d (Err i) sorted bound is =
    grind (arith, common_steps, cases_lt, list_any_none, searchable_from_sorted o key xs x sorted)
