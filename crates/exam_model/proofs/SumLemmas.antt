-- Sums over numbers, and over the pairs of places of a list.
use Rattle.std.proofs.lemmas.Grind.{common_steps}
use Rattle.std.proofs.Common.{◌≡◌, ℕ, zero, suc, ◌+◌, ◌*◌, cond, eqb, ltb, List, [], ◌∷◌, sum_by, refl, sym, ◌∙◌, ap, ap₂, arith, ◌<◌, ◌≤◌, ◌++◌, take, length, get_or, IsPermutation, suc-mul, add-one, add-zero, zero-mul, add-mul, le-ltb}
use Rattle.std.proofs.lemmas.List.{take_more}
use Rattle.std.proofs.lemmas.List.Sums.{sum_by-cons, sum_by_push, sum_by-le}
use Rattle.std.proofs.lemmas.List.Sorted.{sum_by-IsPermutation}
use Rattle.std.proofs.lemmas.Bool.{cond-false}
use Rattle.std.proofs.lemmas.Bool.Decides.{nat_tests}
use Rattle.exam_lists.proofs.Chains.{IsChain}
use Rattle.exam_lists.proofs.Sums.{sum_by-add, sum_by-agree, sum_by-none, sum_by-same, sum_by-zeros}
use Rattle.exam_model.specs.Sums.{sum_below, sum_pairs}

-- ---- sums over numbers

pub sum_below-same : (f g : ℕ → ℕ) → ((e : ℕ) → f e ≡ g e) → (n : ℕ) → sum_below n f ≡ sum_below n g
sum_below-same f g h n = λ i. sum_below n (λ e. h e i)

pub sum_below-zeros : (n : ℕ) → sum_below n (λ e. 0) ≡ 0
sum_below-zeros zero = refl
sum_below-zeros (suc n) = add-zero _ ∙ sum_below-zeros n

-- a sum over numbers and one over a list, in either order
pub sum_below-turned : {X : Type 0} (g : ℕ → X → ℕ) (n : ℕ) (xs : List X)
    → sum_below n (λ e. sum_by (g e) xs) ≡ sum_by (λ x. sum_below n (λ e. g e x)) xs
sum_below-turned g zero xs = sym (sum_by-zeros xs)
sum_below-turned g (suc n) xs =
    ap (λ k. k + sum_by (g n) xs) (sum_below-turned g n xs)
    ∙ sym (sum_by-add (λ x. sum_below n (λ e. g e x)) (g n) xs)

at_step : (x n a k m : ℕ) → (x ≡ n → k ≡ m) → a ≡ cond (ltb x n) k 0
    → a + cond (eqb x n) m 0 ≡ cond (ltb x (suc n)) k 0
at_step x n a k m same e = grind (arith, nat_tests)

-- one term of a sum over numbers
pub sum_below-at : (w : ℕ → ℕ) (x n : ℕ) → sum_below n (λ e. cond (eqb x e) (w e) 0)
    ≡ cond (ltb x n) (w x) 0
sum_below-at w x zero = sym (cond-false (ltb x 0) (w x) 0 (le-ltb x 0 (omega arith)))
sum_below-at w x (suc n) = at_step x n _ (w x) (w n) (λ e. ap w e) (sum_below-at w x n)

-- ---- all pairs, and the pairs in order

pub sum_pairs-square : {X : Type 0} (g : X → X → ℕ) → ((x : X) → g x x ≡ 0) → (xs : List X)
    → IsChain (λ x y. g y x ≡ 0) xs → sum_by (λ x. sum_by (g x) xs) xs ≡ sum_pairs g xs
sum_pairs-square g none [] h = refl
sum_pairs-square g none (x ∷ xs) h =
    let first = sum_by-cons (λ y. sum_by (g y) (x ∷ xs)) x xs in
    let own = sum_by-cons (g x) x xs in
    let zero_own = none x in
    let rest = sum_by-same _ _ (λ y. sum_by-cons (g y) x xs) xs
    ∙ sum_by-add (λ y. g y x) (λ y. sum_by (g y) xs) xs in
    let back = sum_by-none (λ y. g y x) xs h.0 in
    let more = sum_pairs-square g none xs h.1 in
    omega arith

pub sum_pairs-agree : {X : Type 0} (g k : X → X → ℕ) (xs : List X)
    → IsChain (λ x y. g x y ≡ k x y) xs → sum_pairs g xs ≡ sum_pairs k xs
sum_pairs-agree g k [] h = refl
sum_pairs-agree g k (x ∷ xs) h =
    ap₂ (λ a b. a + b) (sum_by-agree (g x) (k x) xs h.0) (sum_pairs-agree g k xs h.1)

-- ---- one place more, a bound, and any order

pub sum_pairs-push : {X : Type 0} (g : X → X → ℕ) (xs : List X) (y : X)
    → sum_pairs g (xs ++ y ∷ []) ≡ sum_pairs g xs + sum_by (λ x. g x y) xs
sum_pairs-push g [] y = refl
sum_pairs-push g (x ∷ xs) y =
    grind (arith, common_steps, sum_pairs-push g xs y, sum_by-cons, sum_by_push)

pub sum_pairs-more : {X : Type 0} (g : X → X → ℕ) (xs : List X) (i : ℕ) (d : X) → i < length xs
    → sum_pairs g (take (i + 1) xs)
    ≡ sum_pairs g (take i xs) + sum_by (λ x. g x (get_or xs i d)) (take i xs)
sum_pairs-more g xs i d h =
    ap (sum_pairs g) (take_more xs i d h) ∙ sum_pairs-push g (take i xs) (get_or xs i d)

pub sum_pairs-le : {X : Type 0} (g : X → X → ℕ) (m : ℕ) → ((x y : X) → g x y ≤ m) → (xs : List X)
    → sum_pairs g xs ≤ length xs * (length xs * m)
sum_pairs-le g m small [] = omega arith
sum_pairs-le g m small (x ∷ xs) = grind (arith, sum_pairs-le g m small xs, sum_by-le)

-- if the order in a pair doesn't matter, all pairs of places, in both orders
pub sum_pairs-twice : {X : Type 0} (g : X → X → ℕ) → ((x : X) → g x x ≡ 0)
    → ((x y : X) → g x y ≡ g y x) → (xs : List X)
    → sum_by (λ x. sum_by (g x) xs) xs ≡ sum_pairs g xs + sum_pairs g xs
sum_pairs-twice g none either [] = refl
sum_pairs-twice g none either (x ∷ xs) =
    let first = sum_by-cons (λ y. sum_by (g y) (x ∷ xs)) x xs in
    let own = sum_by-cons (g x) x xs in
    let zero_own = none x in
    let rest = sum_by-same _ _ (λ y. sum_by-cons (g y) x xs) xs
    ∙ sum_by-add (λ y. g y x) (λ y. sum_by (g y) xs) xs in
    let back = sum_by-same (λ y. g y x) (g x) (λ y. either y x) xs in
    let more = sum_pairs-twice g none either xs in
    omega arith

-- the order of the list doesn't matter either
pub sum_pairs-IsPermutation : {X : Type 0} (g : X → X → ℕ) → ((x : X) → g x x ≡ 0)
    → ((x y : X) → g x y ≡ g y x) → (xs ys : List X) → IsPermutation xs ys
    → sum_pairs g ys ≡ sum_pairs g xs
sum_pairs-IsPermutation g none either xs ys moved =
    let one = sum_pairs-twice g none either xs in
    let other = sum_pairs-twice g none either ys in
    let same = sum_by-IsPermutation (λ x. sum_by (g x) ys) xs ys moved
    ∙ sum_by-same _ _ (λ x. sum_by-IsPermutation (g x) xs ys moved) xs in
    omega arith

-- ---- more on sums over numbers

pub sum_below-within : (f g : ℕ → ℕ) (n : ℕ) → ((e : ℕ) → e < n → f e ≡ g e)
    → sum_below n f ≡ sum_below n g
sum_below-within f g zero h = refl
sum_below-within f g (suc n) h =
    ap₂ (λ a b. a + b) (sum_below-within f g n (λ e l. h e (omega arith))) (h n (omega arith))

pub sum_below-add : (f g : ℕ → ℕ) (n : ℕ)
    → sum_below n (λ e. f e + g e) ≡ sum_below n f + sum_below n g
sum_below-add f g zero = refl
sum_below-add f g (suc n) = let h = sum_below-add f g n in omega arith

pub sum_below-times : (f : ℕ → ℕ) (k n : ℕ) → sum_below n (λ e. f e * k) ≡ sum_below n f * k
sum_below-times f k zero = sym (zero-mul k)
sum_below-times f k (suc n) =
    ap (λ m. m + f n * k) (sum_below-times f k n) ∙ sym (add-mul (sum_below n f) (f n) k)

pub sum_below-le : (f : ℕ → ℕ) (m n : ℕ) → ((e : ℕ) → e < n → f e ≤ m) → sum_below n f ≤ n * m
sum_below-le f m zero h = omega arith
sum_below-le f m (suc n) h =
    grind (arith, sum_below-le f m n (λ e l. h e (omega arith)), suc-mul)

-- a sum with one more number
pub sum_below_more : (f : ℕ → ℕ) (n : ℕ) → sum_below (n + 1) f ≡ sum_below n f + f n
sum_below_more f n = rw add-one refl
