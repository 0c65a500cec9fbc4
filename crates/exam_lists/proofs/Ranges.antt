-- The numbers from 0 or another number on, and what a function gives at each.
use Rattle.std.proofs.Common.{Bool, List, [], add-one, ap, append-nil, ap₂, arith, false, map, nat_le, nat_lt, refl, suc, sym, true, zero, ℕ, ◌&&◌, ◌++◌, ◌+◌, ◌<◌, ◌==◌, ◌||◌, ◌∙◌, ◌∷◌, ◌≡◌, get_or}
use Rattle.std.proofs.lemmas.Bool.Decides.{nat_tests}
use Rattle.std.proofs.lemmas.List.{flat_map_more}
use Rattle.std.proofs.lemmas.List.Elements.{filter-append}
use Rattle.std.specs.List.{flat_map, list_any, range_with_len}
use Rattle.std.specs.Prelude.{filter}
use Rattle.std.proofs.lemmas.List.FromFn.{get_or-range_with_len}

-- one more number at the end
range_more : (n a b : ℕ) → a + n ≡ b → range_with_len a (suc n) ≡ range_with_len a n ++ b ∷ []
range_more zero a b is = let same : a ≡ b = omega arith in ap (λ x. x ∷ []) same
range_more (suc n) a b is = ap (λ xs. a ∷ xs) (range_more n (a + 1) b (omega arith))

-- one more number from 0
pub range_push : (n : ℕ) → range_with_len 0 (n + 1) ≡ range_with_len 0 n ++ n ∷ []
range_push n = rw (add-one n) (range_more n 0 n (omega arith))

-- its value
pub range_map_more : {X : Type 0} (f : ℕ → X) (before : List X) (n : ℕ)
    → (before ++ map f (range_with_len 0 n)) ++ f n ∷ []
    ≡ before ++ map f (range_with_len 0 (n + 1))
range_map_more {X = X} f before n =
    joined before (range_with_len 0 n)
    ∙ ap (λ xs. before ++ map f xs) (sym (range_push n))
  where
    tail : (xs : List ℕ) → map f xs ++ f n ∷ [] ≡ map f (xs ++ n ∷ [])
    tail [] = refl
    tail (x ∷ xs) = ap (λ ys. f x ∷ ys) (tail xs)

    joined : (ys : List X) (xs : List ℕ) → (ys ++ map f xs) ++ f n ∷ [] ≡ ys ++ map f (xs ++ n ∷ [])
    joined [] xs = tail xs
    joined (y ∷ ys) xs = ap (λ zs. y ∷ zs) (joined ys xs)

-- its list
pub range_flat_map_more : {X : Type 0} (f : ℕ → List X) (before : List X) (n : ℕ)
    → (before ++ flat_map f (range_with_len 0 n)) ++ f n
    ≡ before ++ flat_map f (range_with_len 0 (n + 1))
range_flat_map_more f before n =
    flat_map_more f before (range_with_len 0 n) n
    ∙ ap (λ xs. before ++ flat_map f xs) (sym (range_push n))

-- it passes a test, or fails
pub range_filter_more : (test : ℕ → Bool) (n : ℕ) → test n ≡ true
    → filter test (range_with_len 0 (n + 1)) ≡ filter test (range_with_len 0 n) ++ n ∷ []
range_filter_more test n passes =
    ap (filter test) (range_push n) ∙ filter-append test (range_with_len 0 n) (n ∷ [])
    ∙ rw passes refl

pub range_filter_same : (test : ℕ → Bool) (n : ℕ) → test n ≡ false
    → filter test (range_with_len 0 (n + 1)) ≡ filter test (range_with_len 0 n)
range_filter_same test n fails =
    ap (filter test) (range_push n) ∙ filter-append test (range_with_len 0 n) (n ∷ [])
    ∙ rw fails (append-nil _)

-- the same value at each number
pub range_map_same : {X : Type 0} (f g : ℕ → X) (a n : ℕ) → ((k : ℕ) → k < a + n → f k ≡ g k)
    → map f (range_with_len a n) ≡ map g (range_with_len a n)
range_map_same f g a zero same = refl
range_map_same f g a (suc n) same =
    ap₂ (λ x xs. x ∷ xs) (same a (omega arith))
    (range_map_same f g (a + 1) n (λ k lt. same k (omega arith)))

-- the same list at each number
pub range_flat_map_same : {X : Type 0} (f g : ℕ → List X) (a n : ℕ) → ((k : ℕ) → k < a + n → f k ≡ g k)
    → flat_map f (range_with_len a n) ≡ flat_map g (range_with_len a n)
range_flat_map_same f g a zero same = refl
range_flat_map_same f g a (suc n) same =
    ap₂ (λ x y. x ++ y) (same a (omega arith))
    (range_flat_map_same f g (a + 1) n (λ k lt. same k (omega arith)))

-- e is one of the n numbers from a on
any_from : (e a n : ℕ) → list_any (λ k. k == e) (range_with_len a n)
    ≡ (nat_le a e && nat_lt e (a + n))
any_from e a zero = grind (arith, nat_tests)
any_from e a (suc n) = ap (λ b. (a == e) || b) (any_from e (a + 1) n) ∙ more e a n
  where
    more : (e a n : ℕ) → ((a == e) || (nat_le (a + 1) e && nat_lt e (a + 1 + n)))
        ≡ (nat_le a e && nat_lt e (a + suc n))
    more e a n = grind (arith, nat_tests)

-- e is one of the numbers below n
pub any_below : (e n : ℕ) → list_any (λ k. k == e) (range_with_len 0 n) ≡ nat_lt e n
any_below e n = any_from e 0 n ∙ plain e n
  where
    plain : (e n : ℕ) → (nat_le 0 e && nat_lt e (0 + n)) ≡ nat_lt e n
    plain e n = grind (arith, nat_tests)

-- the numbers from 1 on
pub get_or_range_one : (n i : ℕ) → i < n → get_or (range_with_len 1 n) i 0 ≡ i + 1
get_or_range_one n i lt = get_or-range_with_len 1 n i 0 lt ∙ omega arith
