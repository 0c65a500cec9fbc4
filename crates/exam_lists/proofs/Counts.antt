-- How many elements pass a test.
use Rattle.std.proofs.lemmas.Grind.{common_steps}
use Rattle.exam_lists.proofs.Sums.{sum_by-ones, sum_by-zeros}
use Rattle.std.proofs.Common.{Bool, List, [], ap, arith, cond, count_by, false, get_or, length, nat_lt, refl, suc, take, true, ℕ, ◌+◌, ◌<◌, ◌∷◌, ◌≡◌, ◌≤◌, rules}
use Rattle.std.proofs.lemmas.Bool.{false≢true}
use Rattle.std.proofs.lemmas.Bool.Decides.{nat_tests}
use Rattle.std.proofs.lemmas.List.{get_or-drop, length-drop}
use Rattle.std.proofs.lemmas.List.Sums.{sum_by-cons, sum_by-le-sum_by, sum_by-take-drop}
use Rattle.std.specs.List.{list_any}
use Rattle.std.specs.Prelude.{nat_le, ◌==◌}

one_or_none : (b : Bool) → b ≡ false → ◌≡◌ {A = ℕ} (cond b 1 0) 0
one_or_none b is = ap (λ c. cond c 1 0) is

-- no element passes
pub count_by-none : {X : Type 0} (t : X → Bool) (xs : List X)
    → ((k : ℕ) (d : X) → k < length xs → t (get_or xs k d) ≡ false) → count_by t xs ≡ 0
count_by-none t [] none = refl
count_by-none t (x ∷ xs) none =
    let first = one_or_none (t x) (none 0 x (omega arith)) in
    let others = count_by-none t xs (λ k d lt. none (suc k) d (omega arith)) in
    omega (arith, sum_by-cons (λ y. cond (t y) 1 0) x xs, first, others)

-- no element passes from index i on
pub count_by-take : {X : Type 0} (t : X → Bool) (xs : List X) (i : ℕ)
    → ((k : ℕ) (d : X) → i ≤ k → k < length xs → t (get_or xs k d) ≡ false)
    → count_by t xs ≡ count_by t (take i xs)
count_by-take t xs i none =
    search (rules, count_by-none, get_or-drop, length-drop, sum_by-take-drop)

-- tests that always fail, or pass
pub count_by-never : {X : Type 0} (xs : List X) → count_by (λ x. false) xs ≡ 0
count_by-never xs = sum_by-zeros xs

pub count_by-always : {X : Type 0} (xs : List X) → count_by (λ x. true) xs ≡ length xs
count_by-always xs = sum_by-ones xs

-- some element passes exactly if more than none do
pub count_by_any : {X : Type 0} (p : X → Bool) (xs : List X) → nat_lt 0 (count_by p xs) ≡ list_any p xs
count_by_any p [] = refl
count_by_any p (x ∷ xs) = grind (arith, common_steps, count_by_any p xs, sum_by-cons)

cond_le_cond : (b d : Bool) → (b ≡ true → d ≡ true) → ◌≤◌ (cond b 1 0) (cond d 1 0)
cond_le_cond false d h = omega arith
cond_le_cond true true h = omega arith
cond_le_cond true false h = absurd (false≢true (h refl))

-- a test that passes more often
pub count_by-le : {X : Type 0} (p q : X → Bool) (xs : List X) → ((x : X) → p x ≡ true → q x ≡ true)
    → count_by p xs ≤ count_by q xs
count_by-le p q xs h = grind (arith, common_steps, cond_le_cond, sum_by-le-sum_by)

le_parts : (t x : ℕ)
    → ◌≡◌ {A = ℕ} (cond (nat_le t x) 1 0) (cond (nat_lt t x) 1 0 + cond (x == t) 1 0)
le_parts t x = grind (arith, nat_tests)

-- the numbers that reach t are above it or are t
pub count_by-reaches : (t : ℕ) (xs : List ℕ)
    → count_by (λ x. nat_le t x) xs ≡ count_by (λ x. nat_lt t x) xs + count_by (λ x. x == t) xs
count_by-reaches t [] = refl
count_by-reaches t (x ∷ xs) =
    grind (arith, common_steps, count_by-reaches t xs, le_parts, sum_by-cons)
