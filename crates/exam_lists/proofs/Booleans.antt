-- Tests, and numbers that depend on one.
use Rattle.std.proofs.lemmas.Grind.{common_steps}
use Rattle.std.proofs.Common.{Bool, ap, arith, cond, eqb, false, le-ltb, lt-ltb, ltb, not, one-mul, refl, sym, true, zero-mul, ℕ, ◌&&◌, ◌*◌, ◌+◌, ◌∙◌, ◌≡◌, ◌≤◌, zero-add, add-zero, IsTrue}
use Rattle.std.proofs.lemmas.Bool.{cases_lt, cond-false, cond-true}
use Rattle.std.proofs.lemmas.Bool.Decides.{nat_tests}
use Rattle.std.specs.Prelude.{◌||◌, MatchBool}

pub and_swap : (a b c : Bool) → (a && (b && c)) ≡ (b && (a && c))
and_swap true true c = refl
and_swap true false c = refl
and_swap false true c = refl
and_swap false false c = refl

pub or_middle : (a b r : Bool) → (a || (b || r)) ≡ (b || (a || r))
or_middle true true r = refl
or_middle true false r = refl
or_middle false b r = refl

-- two tests that imply each other
pub same_tests : (a b : Bool) → (a ≡ true → b ≡ true) → (b ≡ true → a ≡ true) → a ≡ b
same_tests true b h k = sym (h refl)
same_tests false true h k = k refl
same_tests false false h k = refl

-- a test that is the negation of another
pub false_from_not : (new there : Bool) → new ≡ not there → new ≡ true → there ≡ false
false_from_not new true is yes' = absurd (cc)
false_from_not new false is yes' = refl

pub true_from_not : (new there : Bool) → new ≡ not there → new ≡ false → there ≡ true
true_from_not new true is no' = refl
true_from_not new false is no' = absurd (cc)

-- a choice of two equal values
pub cond_same : {X : Type 0} (b : Bool) (x : X) → cond b x x ≡ x
cond_same true x = refl
cond_same false x = refl

pub cond_not : (before : Bool) → ◌≡◌ {A = ℕ} (cond before 0 1) (cond (not before) 1 0)
cond_not true = refl
cond_not false = refl

-- a number or 0, times another
pub cond_mul : (b : Bool) (s c : ℕ) → cond b s 0 * c ≡ cond b (s * c) 0
cond_mul true s c = refl
cond_mul false s c = zero-mul c

pub cond_times : (b : Bool) (w : ℕ) → cond b 1 0 * w ≡ cond b w 0
cond_times true w = one-mul w
cond_times false w = zero-mul w

pub cond_and_times : (a b : Bool) (w : ℕ) → cond (a && b) 1 0 * w ≡ cond a (cond b w 0) 0
cond_and_times a b w = elim a as (λ c. cond (c && b) 1 0 * w ≡ cond c (cond b w 0) 0)
    [ true ↦ cond_times b w | false ↦ zero-mul w ]

-- a number or 0 is not greater
pub cond_le : (b : Bool) (n m : ℕ) → n ≤ m → cond b n 0 ≤ m
cond_le true n m h = h
cond_le false n m h = omega arith

pub cond_one_le : (b : Bool) → ◌≤◌ (cond b 1 0) 1
cond_one_le true = omega arith
cond_one_le false = omega arith

-- an amount below n, if there is none from n on
pub cond_below_or_none : (amount : ℕ → ℕ) (x n : ℕ) → (n ≤ x → amount x ≡ 0)
    → cond (ltb x n) (amount x) 0 ≡ amount x
cond_below_or_none amount x n past =
    grind (arith, common_steps, cases_lt, cond-false, cond-true, le-ltb, lt-ltb)

-- one more at most
pub count_new_le : (before here : Bool) (n k e : ℕ) → k ≡ cond (here && not before) 1 0
    → n ≤ e → n + k ≤ e + 1
count_new_le true true n k e is h = omega arith
count_new_le true false n k e is h = omega arith
count_new_le false true n k e is h = omega arith
count_new_le false false n k e is h = omega arith

-- equal numbers, in either order
pub eqb_swap : (a b : ℕ) → eqb a b ≡ eqb b a
eqb_swap a b = grind (arith, nat_tests)

-- 1 for each of two tests of which at most one passes
pub cond_either : (a b : Bool) → (a ≡ true → b ≡ false)
    → ◌≡◌ {A = ℕ} (cond a 1 0 + cond b 1 0) (cond (a || b) 1 0)
cond_either true b other =
    let none : ◌≡◌ {A = ℕ} (cond b 1 0) 0 = ap (λ c. cond c 1 0) (other refl) in omega arith
cond_either false b other = zero-add (cond b 1 0)

pub cond_swap : (a b : Bool) → ◌≡◌ {A = ℕ} (cond a (cond b 1 0) 0) (cond b (cond a 1 0) 0)
cond_swap true true = refl
cond_swap true false = refl
cond_swap false true = refl
cond_swap false false = refl

pub cond_and_swap : (a b : Bool) → ◌≡◌ {A = ℕ} (cond (a && b) 1 0) (cond b (cond a 1 0) 0)
cond_and_swap true b = cond_swap true b
cond_and_swap false b = cond_swap false b

pub cond_and_turned : (a b c : Bool) (n : ℕ) → cond c (cond (a && b) n 0) 0
    ≡ cond b (cond c (cond a n 0) 0) 0
cond_and_turned a b c n = grind (arith, common_steps, cond_same)

-- an amount if a test passes and another doesn't
pub cond_and_not : (a b : Bool) (n : ℕ) → cond a (cond b 0 n) 0 ≡ cond (a && not b) n 0
cond_and_not true true n = refl
cond_and_not true false n = refl
cond_and_not false b n = refl

pub cond_and_and_not : (a b c : Bool) (n : ℕ)
    → cond a (cond b (cond c 0 n) 0) 0 ≡ cond ((a && b) && not c) n 0
cond_and_and_not true b c n = cond_and_not b c n
cond_and_and_not false b c n = refl

-- an amount if one of two tests passes, counted once
pub cond_or : (a b : Bool) (n : ℕ) → cond (a || b) n 0 ≡ cond a (cond b 0 n) 0 + cond b n 0
cond_or true true n = omega arith
cond_or true false n = omega arith
cond_or false true n = omega arith
cond_or false false n = refl

pub cond_or_and : (a b c : Bool) (n : ℕ)
    → cond (a || (b && c)) n 0 ≡ cond a n 0 + cond c (cond b (cond a 0 n) 0) 0
cond_or_and true true true n = sym (add-zero n)
cond_or_and true true false n = sym (add-zero n)
cond_or_and true false true n = sym (add-zero n)
cond_or_and true false false n = sym (add-zero n)
cond_or_and false true true n = omega arith
cond_or_and false true false n = refl
cond_or_and false false true n = refl
cond_or_and false false false n = refl

pub and_turned : (a b c : Bool) → ((a && b) && c) ≡ (a && (c && b))
and_turned true true true = refl
and_turned true true false = refl
and_turned true false true = refl
and_turned true false false = refl
and_turned false b c = refl

pub and_false_middle : (a b : Bool) → ((a && false) && b) ≡ false
and_false_middle true b = refl
and_false_middle false b = refl

pub or_turned : (a b c : Bool) → ((a || b) || c) ≡ ((b || c) || a)
or_turned true true c = refl
or_turned true false true = refl
or_turned true false false = refl
or_turned false true c = refl
or_turned false false true = refl
or_turned false false false = refl

pub or_flip : (a b : Bool) → (a || b) ≡ (b || (a || false))
or_flip true true = refl
or_flip true false = refl
or_flip false true = refl
or_flip false false = refl

-- a test that fails
pub not_when_false : (b : Bool) (P : Type 0) → (P → IsTrue b) → b ≡ false → P → ⊥
not_when_false b P implies is holds = let never : true ≡ false = sym (implies holds) ∙ is in cc

pub last_fails : (a b c : Bool) → ((a || not b || not c) && true) ≡ true → a ≡ false → b ≡ true
    → c ≡ false
last_fails false true false h k p = refl
last_fails _ _ _ h k p = absurd (cc)

-- the case of a bool that is true
pub MatchBool_true : (b : Bool) → IsTrue b → (P Q : Type 0) → MatchBool b P Q → P
MatchBool_true true so P Q h = h
MatchBool_true false so P Q h = absurd cc
