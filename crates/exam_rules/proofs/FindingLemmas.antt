-- The pairs that a walk along a list has found so far.
use Rattle.std.proofs.lemmas.Grind.{common_steps}
use Rattle.std.specs.List.{list_any}
use Rattle.std.proofs.Common.{◌≡◌, ℕ, ◌+◌, ◌<◌, ◌≤◌, Bool, true, false, ◌&&◌, ◌||◌, ◌==◌, nat_lt, List, [], length, take, get_or, refl, sym, ◌∙◌, ap, arith}
use Rattle.std.proofs.lemmas.Bool.{and_from, lt-ltb}
use Rattle.std.proofs.lemmas.List.{take_all}
use Rattle.std.proofs.lemmas.List.Folds.{list_any_more}
use Rattle.std.proofs.lemmas.Bool.Decides.{nat_tests}
use Rattle.std.proofs.Math.Bool.{or-false, or_assoc, and-or_distrib_right}
use Rattle.exam_rules.specs.Breach.{is_pair, HasJust}
use Rattle.exam_rules.specs.Lines.{are_both}
use Rattle.exam_rules.specs.declared.exam_pair.ExamPair.{ExamPair}

-- the pairs from before, and those that one of the first i elements names and that pass a test
pub record AreFound {X : Type 0} (names : ℕ → ℕ → X → Bool) (test : ℕ → ℕ → Bool)
    (before : List ExamPair) (xs : List X) (i : ℕ) (found : List ExamPair) : Type 0 where
  pub members : (e f : ℕ) → list_any (is_pair e f) found
      ≡ (list_any (is_pair e f) before || (list_any (names e f) (take i xs) && test e f))

pub found_none : {X : Type 0} {names : ℕ → ℕ → X → Bool} {test : ℕ → ℕ → Bool}
    {before : List ExamPair} {xs : List X}
    → AreFound names test before xs 0 before
found_none {X} {names} {test} {before} {xs} =
    record { members = λ e f. sym (or-false (list_any (is_pair e f) before)) }

-- one more element adds the pairs that it names and that pass
pub found_more : {X : Type 0} {names : ℕ → ℕ → X → Bool} {test : ℕ → ℕ → Bool}
    {before : List ExamPair} {xs : List X} {i : ℕ}
    {x : X} {found more : List ExamPair} {added : ℕ → ℕ → Bool}
    → AreFound names test before xs i found → i < length xs → x ≡ get_or xs i x
    → ((e f : ℕ) → list_any (is_pair e f) more ≡ (list_any (is_pair e f) found || added e f))
    → ((e f : ℕ) → added e f ≡ (names e f x && test e f))
    → AreFound names test before xs (i + 1) more
found_more {X} {names} {test} {before} {xs} {i} {x} {found} {more} {added} so_far within here adds is =
    grind (arith, common_steps, and-or_distrib_right, list_any_more, or_assoc)

-- at the end of the list
pub found_all : {X : Type 0} {names : ℕ → ℕ → X → Bool} {test : ℕ → ℕ → Bool}
    {before : List ExamPair} {xs : List X} {i : ℕ}
    {found : List ExamPair} → AreFound names test before xs i found → length xs ≤ i
    → (e f : ℕ) → list_any (is_pair e f) found
    ≡ (list_any (is_pair e f) before || (list_any (names e f) xs && test e f))
found_all {X} {names} {test} {before} {xs} {i} all past e f = grind (arith, common_steps, take_all)

-- a line on two exams names the smaller of them first
pub smaller_first : (a b : ℕ) (test : ℕ → ℕ → Bool) (e f : ℕ) → a < b
    → (((a == e) && (b == f)) && test a b) ≡ (are_both e f a b && (nat_lt e f && test e f))
smaller_first a b test e f lt = grind (arith, nat_tests)

-- the pairs of exams below i that pass a test
pub record AreFoundBelow (test : ℕ → ℕ → Bool) (i : ℕ) (found : List ExamPair) : Type 0 where
  pub members : (e f : ℕ) → list_any (is_pair e f) found ≡ (nat_lt e i && test e f)

pub below_none : {test : ℕ → ℕ → Bool} → AreFoundBelow test 0 []
below_none {test} = grind (arith, common_steps)

-- one more exam adds its own pairs
pub below_more : {test : ℕ → ℕ → Bool} {i : ℕ} {before after : List ExamPair} {added : ℕ → ℕ → Bool}
    → AreFoundBelow test i before
    → ((e f : ℕ) → list_any (is_pair e f) after ≡ (list_any (is_pair e f) before || added e f))
    → ((e f : ℕ) → added e f ≡ ((i == e) && test e f))
    → AreFoundBelow test (i + 1) after
below_more {test} {i} {before} {after} {added} so_far adds is = grind (arith, common_steps)

pub below_all : {test : ℕ → ℕ → Bool} {i n : ℕ} {found : List ExamPair}
    → AreFoundBelow test i found → i ≡ n
    → ((e f : ℕ) → test e f ≡ true → (e < n) × (f < n)) → HasJust test n found
below_all {test} {i} {n} {found} all end exist = record {
  members = λ e f. all.members e f ∙ ap (λ m. nat_lt e m && test e f) end
      ∙ within e (test e f) (λ h. (exist e f h).0);
  exist = exist;
}
  where
    within : (e : ℕ) (b : Bool) → (b ≡ true → e < n) → (nat_lt e n && b) ≡ b
    within e true h = and_from (nat_lt e n) true (lt-ltb e n (h refl)) refl
    within e false h = grind (arith, nat_tests)

-- an exam's pair with itself
pub twice : (k : ℕ) (test : ℕ → Bool) (e f : ℕ)
    → (((k == e) && (k == f)) && test k) ≡ ((k == e) && ((e == f) && test e))
twice k test e f = grind (arith, nat_tests)

-- the pair of an exam with another one of a list
pub at_pair : (k x : ℕ) (test : ℕ → ℕ → Bool) (e f : ℕ)
    → (((k == e) && (x == f)) && test k x) ≡ ((x == f) && ((k == e) && test e f))
at_pair k x test e f = grind (arith, nat_tests)

-- the pair of two exams of one element
pub of_both : (a b : ℕ) (test : ℕ → ℕ → Bool) (e f : ℕ)
    → (((a == e) && (b == f)) && test a b) ≡ (((a == e) && (b == f)) && test e f)
of_both a b test e f = grind (arith, nat_tests)
