-- The cost of an exam with all others, period by period.
use Rattle.std.proofs.Common.{◌≡◌, ℕ, zero, suc, ◌+◌, ◌*◌, ◌<◌, ◌≤◌, cond, ◌==◌, List, length, Option, Some, None, refl, ◌∙◌, ap, ap₂, arith, add-mul, zero-mul, option_map}
use Rattle.std.proofs.lemmas.Bool.{cases_lt, lt-ltb}
use Rattle.std.proofs.lemmas.List.{get_or_past}
use Rattle.exam_lists.proofs.Booleans.{cond_mul}
use Rattle.exam_terms.specs.declared.place.Place.{Place}
use Rattle.exam_model.specs.Enrolments.{AreEnrolments}
use Rattle.exam_model.specs.Fits.{period_of}
use Rattle.exam_model.specs.PairCost.{cost_between}
use Rattle.exam_model.specs.Sums.{sum_below}
use Rattle.exam_model.specs.Timetable.{place_of}
use Rattle.exam_model.proofs.SumLemmas.{sum_below-add, sum_below-at, sum_below-same, sum_below-within, sum_below-zeros}
use Rattle.exam_rules.specs.Places.{place_satisfies}
use Rattle.exam_places.specs.declared.period_table.PeriodEntry.{PeriodEntry}
use Rattle.exam_places.specs.declared.unplaced_exam.UnplacedExam.{UnplacedExam}
use Rattle.exam_places.specs.PeriodTable.{IsPeriodTable, is_in, period_entry, shared_in, shared_with}
use Rattle.exam_places.specs.Shares.{cost_beside}
use Rattle.exam_places.proofs.SizeLemmas.{entry_shared}

-- one exam's students, in its period
one_exam : (cost : ℕ → ℕ → ℕ) (p s periods : ℕ) (o : Option Place)
    → ((q : Place) → o ≡ Some q → q.period < periods)
    → sum_below periods (λ k. cond (place_satisfies (λ at. at.period == k) o) s 0 * cost p k)
    ≡ s * cost_between cost (Some p) (option_map (λ at. at.period) o)
one_exam cost p s periods None within =
    sum_below-same _ (λ k. 0) (λ k. zero-mul (cost p k)) periods ∙ sum_below-zeros periods
    ∙ (let none : 0 ≡ s * 0 = omega arith in none)
one_exam cost p s periods (Some q) within =
    sum_below-same _ (λ k. cond (q.period == k) (s * cost p k) 0)
    (λ k. cond_mul (q.period == k) s (cost p k)) periods
    ∙ sum_below-at (λ k. s * cost p k) q.period periods
    ∙ ap (λ b. cond b (s * cost p q.period) 0) (lt-ltb q.period periods (within q refl))

-- the costs by period are those by exam
by_period : (cost : ℕ → ℕ → ℕ) (u : UnplacedExam) (p periods n : ℕ)
    → ((f : ℕ) (q : Place) → place_of u.timetable.now f ≡ Some q → q.period < periods)
    → sum_below periods (λ k. (period_entry u n k).shared * cost p k)
    ≡ sum_below n (λ f. shared_with u f * cost_between cost (Some p) (period_of u.timetable.now f))
by_period cost u p periods zero within =
    sum_below-same _ (λ k. 0) (λ k. zero-mul (cost p k)) periods ∙ sum_below-zeros periods
by_period cost u p periods (suc n) within =
    sum_below-same _ (λ k. before k + here k)
    (λ k. add-mul ((period_entry u n k).shared)
    (cond (is_in u.timetable.now k n) (shared_with u n) 0) (cost p k))
    periods
    ∙ sum_below-add before here periods
    ∙ ap₂ (λ a b. a + b) (by_period cost u p periods n within)
    (one_exam cost p (shared_with u n) periods (place_of u.timetable.now n) (within n))
  where
    before : ℕ → ℕ
    before k = (period_entry u n k).shared * cost p k

    here : ℕ → ℕ
    here k = cond (is_in u.timetable.now k n) (shared_with u n) 0 * cost p k

-- the cost beside the others by the table
pub beside_by_table : (cost : ℕ → ℕ → ℕ) (u : UnplacedExam) (p n : ℕ) (table : List PeriodEntry)
    → IsPeriodTable u n table → n ≡ length u.enrolments.now
    → ((f : ℕ) (q : Place) → place_of u.timetable.now f ≡ Some q
    → q.period < length u.instance.now.periods)
    → sum_below (length table) (λ q. shared_in table q * cost p q)
    ≡ cost_beside cost u.enrolments.now (period_of u.timetable.now) u.exam p
beside_by_table cost u p n table is all within =
    ap (λ m. sum_below m (λ q. shared_in table q * cost p q)) is.count
    ∙ sum_below-within (λ q. shared_in table q * cost p q)
    (λ q. (period_entry u n q).shared * cost p q) (length u.instance.now.periods)
    (λ q lt. ap (λ (entry : PeriodEntry). entry.shared * cost p q) (is.each q lt))
    ∙ by_period cost u p (length u.instance.now.periods) n within
    ∙ ap (λ m. sum_below m
    (λ f. shared_with u f * cost_between cost (Some p) (period_of u.timetable.now f))) all

-- no entry of the table is large
pub table_small : (u : UnplacedExam) (n : ℕ) (table : List PeriodEntry) → IsPeriodTable u n table
    → AreEnrolments u.enrolments.now → n ≡ length u.enrolments.now
    → u.exam < length u.enrolments.now → (q : ℕ) → shared_in table q ≤ 400000000
table_small u n table is known all within q = grind (arith, cases_lt, entry_shared, get_or_past)
