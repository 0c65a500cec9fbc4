-- The pairs of a student's exams with an edited one, each counted once.
use Rattle.std.specs.Prelude.{nat_le}
use Rattle.std.proofs.Common.{◌≡◌, ℕ, ◌+◌, Bool, true, false, cond, ◌&&◌, ◌||◌, List, [], ◌∷◌, sum_by, Option, Some, None, refl, ◌∙◌, arith, rules}
use Rattle.std.proofs.lemmas.Bool.Decides.{nat_tests}
use Rattle.std.proofs.lemmas.List.Sums.{sum_by-cons}
use Rattle.exam_lists.proofs.Sums.{cond-sum_by, sum_by-add, sum_by-same}
use Rattle.exam_model.specs.Fits.{period_of}
use Rattle.exam_model.specs.PairCost.{cost_between}
use Rattle.exam_model.specs.Sums.{sum_pairs}
use Rattle.exam_model.specs.Timetable.{Placing}
use Rattle.exam_model.specs.Enrolments.{has_number}
use Rattle.exam_score.specs.EditedCosts.{cost_at, edited_cost, exams_cost}

-- ---- costs by periods, if there are any

pub between_swap : (cost : ℕ → ℕ → ℕ) → ((p q : ℕ) → cost p q ≡ cost q p) → (a b : Option ℕ)
    → cost_between cost a b ≡ cost_between cost b a
between_swap cost either None None = refl
between_swap cost either None (Some q) = refl
between_swap cost either (Some p) None = refl
between_swap cost either (Some p) (Some q) = either p q

pub between_none : (cost : ℕ → ℕ → ℕ) → ((p : ℕ) → cost p p ≡ 0) → (a : Option ℕ)
    → cost_between cost a a ≡ 0
between_none cost nothing None = refl
between_none cost nothing (Some p) = nothing p

-- ---- once

-- the cost of an exam with all of these, if it is edited
abbrev pub edited_beside : (ℕ → ℕ → ℕ) → Placing → List ℕ → List ℕ → ℕ → ℕ
edited_beside cost T edited exams e =
    cond (has_number edited e) (sum_by (cost_at cost T edited e) exams) 0

-- all pairs of places in both orders, if no place costs anything with itself
square_by_pairs : {X : Type 0} (u : X → X → ℕ) → ((x : X) → u x x ≡ 0) → (xs : List X)
    → sum_by (λ x. sum_by (u x) xs) xs ≡ sum_pairs (λ x y. u x y + u y x) xs
square_by_pairs u none [] = refl
square_by_pairs u none (x ∷ xs) =
    let first = sum_by-cons (λ y. sum_by (u y) (x ∷ xs)) x xs in
    let own = sum_by-cons (u x) x xs in
    let zero_own = none x in
    let rest = sum_by-same _ _ (λ y. sum_by-cons (u y) x xs) xs
    ∙ sum_by-add (λ y. u y x) (λ y. sum_by (u y) xs) xs in
    let both = sum_by-add (u x) (λ y. u y x) xs in
    let more = square_by_pairs u none xs in
    omega arith

own_none : (a : Bool) (e c : ℕ) → cond a (cond (a && nat_le e e) 0 c) 0 ≡ 0
own_none true e c = grind (arith, nat_tests)
own_none false e c = refl

either_once : (a b : Bool) (e f c d : ℕ) → c ≡ d → (e ≡ f → c ≡ 0)
    → cond a (cond (b && nat_le f e) 0 c) 0 + cond b (cond (a && nat_le e f) 0 d) 0
    ≡ cond (a || b) c 0
either_once true true e f c d same own = grind (arith, nat_tests)
either_once true false e f c d same own = omega arith
either_once false true e f c d same own = omega arith
either_once false false e f c d same own = refl

-- each pair is counted at one of its edited exams
pub edited_once : (cost : ℕ → ℕ → ℕ) (T : Placing) (edited : List ℕ)
    → ((p q : ℕ) → cost p q ≡ cost q p)
    → ((p : ℕ) → cost p p ≡ 0) → (exams : List ℕ)
    → sum_by (edited_beside cost T edited exams) exams ≡ exams_cost cost T edited exams
edited_once cost T edited either nothing exams =
    let u : ℕ → ℕ → ℕ = λ e f. cond (has_number edited e) (cost_at cost T edited e f) 0 in
    sum_by-same _ _ (λ e. cond-sum_by (has_number edited e) (cost_at cost T edited e) exams) exams
    ∙ square_by_pairs u
    (λ e. own_none (has_number edited e) e (cost_between cost (period_of T e) (period_of T e)))
    exams
    ∙ (λ i. sum_pairs (λ e f. each e f i) exams)
  where
    each : (e f : ℕ)
        → cond (has_number edited e) (cost_at cost T edited e f) 0
        + cond (has_number edited f) (cost_at cost T edited f e) 0
        ≡ edited_cost cost T edited e f
    each e f = search (rules, between_none, between_swap, either_once)
