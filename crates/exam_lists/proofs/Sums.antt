-- Sums over a list.
use Rattle.std.proofs.lemmas.Grind.{common_steps}
use Rattle.exam_lists.proofs.Chains.{IsChain, chain_weaker}
use Rattle.exam_lists.proofs.Each.{each_weaker}
use Rattle.std.proofs.Common.{Bool, List, [], add-mul, ap, ap₂, arith, cond, false, filter, length, map, refl, sum_by, sym, true, zero-add, zero-mul, ℕ, ◌*◌, ◌+◌, ◌<◌, ◌||◌, ◌∙◌, ◌∷◌, ◌≡◌, ◌≤◌, eqb, ◌≢◌}
use Rattle.std.proofs.lemmas.Bool.{cond-false, cond-true}
use Rattle.std.proofs.lemmas.List.Sums.{sum_by-cons}
use Rattle.std.specs.List.{AllByRecursion, list_any}
use Rattle.std.proofs.lemmas.Bool.Decides.{nat_tests}

-- equal terms
pub sum_by-same : {X : Type 0} (f g : X → ℕ) → ((x : X) → f x ≡ g x) → (xs : List X)
    → sum_by f xs ≡ sum_by g xs
sum_by-same f g h xs = λ i. sum_by (λ x. h x i) xs

pub sum_by-agree : {X : Type 0} (f g : X → ℕ) → (xs : List X) → AllByRecursion (λ x. f x ≡ g x) xs
    → sum_by f xs ≡ sum_by g xs
sum_by-agree f g [] h = refl
sum_by-agree f g (x ∷ xs) h =
    sum_by-cons f x xs ∙ ap₂ (λ a b. a + b) h.0 (sum_by-agree f g xs h.1) ∙ sym (sum_by-cons g x xs)

-- all terms are 0
pub sum_by-zeros : {X : Type 0} (xs : List X) → sum_by (λ x. 0) xs ≡ 0
sum_by-zeros {X} [] = refl
sum_by-zeros {X} (x ∷ xs) = sum_by-cons (λ (x : X). 0) x xs ∙ zero-add _ ∙ sum_by-zeros xs

pub sum_by-none : {X : Type 0} (f : X → ℕ) (xs : List X) → AllByRecursion (λ x. f x ≡ 0) xs
    → sum_by f xs ≡ 0
sum_by-none f xs h = sum_by-agree f (λ x. 0) xs h ∙ sum_by-zeros xs

-- all terms are 1
pub sum_by-ones : {X : Type 0} (xs : List X) → sum_by (λ x. 1) xs ≡ length xs
sum_by-ones {X} [] = refl
sum_by-ones {X} (x ∷ xs) = omega (arith, sum_by-cons (λ (x : X). 1) x xs, sum_by-ones xs)

-- sums and multiples of terms
pub sum_by-add : {X : Type 0} (f g : X → ℕ) (xs : List X)
    → sum_by (λ x. f x + g x) xs ≡ sum_by f xs + sum_by g xs
sum_by-add f g [] = refl
sum_by-add f g (x ∷ xs) = grind (arith, common_steps, sum_by-add f g xs, sum_by-cons)

pub sum_by-times : {X : Type 0} (f : X → ℕ) (k : ℕ) (xs : List X)
    → sum_by (λ x. f x * k) xs ≡ sum_by f xs * k
sum_by-times f k [] = sym (zero-mul k)
sum_by-times f k (x ∷ xs) = grind (arith, common_steps, sum_by-times f k xs, add-mul, sum_by-cons)

-- two sums, in either order
pub sum_by-turned : {X Y : Type 0} (g : X → Y → ℕ) (xs : List X) (ys : List Y)
    → sum_by (λ x. sum_by (g x) ys) xs ≡ sum_by (λ y. sum_by (λ x. g x y) xs) ys
sum_by-turned g [] ys = sym (sum_by-zeros ys)
sum_by-turned {X} {Y} g (x ∷ xs) ys =
    sum_by-cons (λ x. sum_by (g x) ys) x xs
    ∙ ap (λ n. sum_by (g x) ys + n) (sum_by-turned g xs ys)
    ∙ sym (sum_by-add (g x) (λ y. sum_by (λ x. g x y) xs) ys)
    ∙ sym (sum_by-same _ _ (λ y. sum_by-cons (λ x. g x y) x xs) ys)

pub sum_by-map : {X Y : Type 0} (g : Y → ℕ) (f : X → Y) (xs : List X)
    → sum_by g (map f xs) ≡ sum_by (λ x. g (f x)) xs
sum_by-map g f [] = refl
sum_by-map g f (x ∷ xs) = sum_by-cons g (f x) (map f xs) ∙ ap (λ n. g (f x) + n) (sum_by-map g f xs)
    ∙ sym (sum_by-cons (λ x. g (f x)) x xs)

pub sum_by-filter-le : {X : Type 0} (f : X → ℕ) (t : X → Bool) (xs : List X)
    → sum_by f (filter t xs) ≤ sum_by f xs
sum_by-filter-le f t [] = omega arith
sum_by-filter-le f t (x ∷ xs) = grind (arith, common_steps, sum_by-filter-le f t xs, sum_by-cons)

-- each term is below what the sum is below
pub each_below_sum : {X : Type 0} (f : X → ℕ) (n : ℕ) (xs : List X) → sum_by f xs < n
    → AllByRecursion (λ x. f x < n) xs
each_below_sum f n [] h = tt
each_below_sum f n (x ∷ xs) h = let c = sum_by-cons f x xs in
    (omega arith, each_below_sum f n xs (omega arith))

-- terms with a test
pub cond-sum_by : {X : Type 0} (b : Bool) (h : X → ℕ) (xs : List X)
    → cond b (sum_by h xs) 0 ≡ sum_by (λ x. cond b (h x) 0) xs
cond-sum_by b h xs = elim b as (λ c. cond c (sum_by h xs) 0 ≡ sum_by (λ x. cond c (h x) 0) xs)
    [ true ↦ refl | false ↦ sym (sum_by-zeros xs) ]

any_step : (b c : Bool) (w n : ℕ) → (b ≡ true → n ≡ 0) → cond c w 0 ≡ n
    → cond (b || c) w 0 ≡ cond b w 0 + n
any_step b c w n = grind (arith, common_steps, zero-add)

-- a test that passes at most once
pub sum_by-once : {X : Type 0} (t : X → Bool) (w : ℕ) (xs : List X)
    → IsChain (λ x y. t x ≡ true → t y ≡ false) xs
    → cond (list_any t xs) w 0 ≡ sum_by (λ x. cond (t x) w 0) xs
sum_by-once t w [] h = refl
sum_by-once t w (x ∷ xs) h =
    any_step (t x) (list_any t xs) w (sum_by (λ x. cond (t x) w 0) xs)
    (λ e. sum_by-none (λ x. cond (t x) w 0) xs
    (each_weaker (λ y. t x ≡ true → t y ≡ false) (λ y. cond (t y) w 0 ≡ 0)
    (λ y f. cond-false (t y) w 0 (f e)) xs h.0))
    (sum_by-once t w xs h.1)
    ∙ sym (sum_by-cons (λ x. cond (t x) w 0) x xs)

same_test : (x s : ℕ) (K : ℕ → ℕ) → cond (eqb x s) (K s) 0 ≡ cond (eqb s x) (K x) 0
same_test x s K = grind (arith, common_steps)

other_number : (x s t : ℕ) → s ≢ t → eqb s x ≡ true → eqb t x ≡ false
other_number x s t ne e = grind (arith, nat_tests)

-- the one term of a number
pub sum_by-at : (x : ℕ) (K : ℕ → ℕ) (xs : List ℕ) → IsChain (λ s t. s ≢ t) xs
    → list_any (λ s. eqb s x) xs ≡ true → sum_by (λ s. cond (eqb x s) (K s) 0) xs ≡ K x
sum_by-at x K xs once there =
    sum_by-same _ _ (λ s. same_test x s K) xs
    ∙ sym (sum_by-once (λ s. eqb s x) (K x) xs
    (chain_weaker (λ s t. s ≢ t) _ (other_number x) xs once))
    ∙ cond-true (list_any (λ s. eqb s x) xs) (K x) 0 there
