-- The rows of sittings, and those of a set's pairs: each sum over the ones equals that over the
-- others.
use Rattle.std.proofs.lemmas.Grind.{common_steps}
use Rattle.std.specs.Ordering.{is_lt, nat_cmp, ordering_then}
use Rattle.std.specs.Cmp.{IsTotalOrder}
use Rattle.std.proofs.Common.{◌≡◌, ℕ, zero, suc, ◌+◌, ◌<◌, ◌≤◌, false, List, [], ◌∷◌, ◌++◌, length, take, take_all, get_or, map, filter_map, Option, Some, None, sum_by, AllPairs, IsSorted, Ordering, refl, sym, ◌∙◌, ap, ap₂, arith, add-one, add-zero}
use Rattle.std.proofs.lemmas.Bool.{cases_lt}
use Rattle.std.proofs.lemmas.List.Sums.{sum_by-cons, sum_by_push, sum_by-append}
use Rattle.std.proofs.lemmas.List.Sorted.{sorted_far, ranks_by}
use Rattle.exam_model.specs.Enrolments.{Enrolled, students}
use Rattle.exam_model.specs.Fits.{period_of}
use Rattle.exam_model.specs.Pairs.{pairs_of}
use Rattle.exam_model.specs.Sums.{sum_below}
use Rattle.exam_model.specs.Timetable.{Placing}
use Rattle.exam_model.proofs.SumLemmas.{sum_below_more}
use Rattle.exam_score.specs.Rows.{row_at, row_of}
use Rattle.exam_score.specs.Tallies.{if_placed}
use Rattle.exam_score.specs.declared.rows.Row.{Row}
use Rattle.exam_score.specs.declared.sittings.PlacedExam.{PlacedExam}
use Rattle.exam_score.proofs.RowLemmas.{rows_more_some, rows_more_none}

-- ---- one more exam

pub sittings_more_some : (g : ℕ → ℕ → ℕ) (T : Placing) (e p : ℕ) (xs : List PlacedExam)
    → period_of T e ≡ Some p
    → sum_by (λ x. g x.exam x.period) xs ≡ sum_below e (λ e. if_placed (g e) (period_of T e))
    → sum_by (λ x. g x.exam x.period) (xs ++ record { period = p; exam = e } ∷ [])
    ≡ sum_below (e + 1) (λ e. if_placed (g e) (period_of T e))
sittings_more_some g T e p xs is known = grind (arith, sum_below_more, sum_by_push)

pub sittings_more_none : (g : ℕ → ℕ → ℕ) (T : Placing) (e : ℕ) (xs : List PlacedExam)
    → period_of T e ≡ None
    → sum_by (λ x. g x.exam x.period) xs ≡ sum_below e (λ e. if_placed (g e) (period_of T e))
    → sum_by (λ x. g x.exam x.period) xs ≡ sum_below (e + 1) (λ e. if_placed (g e) (period_of T e))
sittings_more_none g T e xs is known = grind (arith, add-zero, sum_below_more)

-- ---- the order

abbrev pub sitting_cmp : PlacedExam → PlacedExam → Ordering
sitting_cmp x y = ordering_then (nat_cmp x.period y.period) (nat_cmp x.exam y.exam)

sitting_cmp_total : IsTotalOrder sitting_cmp
sitting_cmp_total = grind (arith, common_steps)

not_less : (x y : PlacedExam) → is_lt (sitting_cmp y x) ≡ false → x.period ≤ y.period
not_less x y h = grind (arith, cases_lt)

pub sorted_sittings : (xs : List PlacedExam) → IsSorted sitting_cmp xs
    → AllPairs (λ x y. x.period ≤ y.period) xs
sorted_sittings xs h i j d l m =
    not_less (get_or xs i d) (get_or xs j d)
    (sorted_far (λ x y. is_lt (sitting_cmp x y))
    (ranks_by sitting_cmp_total (λ x. x)) xs h i j d (omega arith) m)

-- ---- the rows of all exams

-- f summed over the rows of an exam's students
abbrev exam_sum : (Row → ℕ) → Enrolled → ℕ → ℕ → ℕ
exam_sum f E e p = sum_by (λ s. f (row_at p s)) (students E e)

mapped : (f : Row → ℕ) (p : ℕ) (xs : List ℕ)
    → sum_by f (map (row_at p) xs) ≡ sum_by (λ s. f (row_at p s)) xs
mapped f p [] = refl
mapped f p (x ∷ xs) = sum_by-cons f (row_at p x) (map (row_at p) xs)
    ∙ ap (λ n. f (row_at p x) + n) (mapped f p xs) ∙ sym (sum_by-cons (λ s. f (row_at p s)) x xs)

rows_below : (f : Row → ℕ) (E : Enrolled) (T : Placing) (n : ℕ) → n ≤ length E
    → sum_by f (filter_map (row_of T) (pairs_of (take n E)))
    ≡ sum_below n (λ e. if_placed (exam_sum f E e) (period_of T e))
rows_below f E T zero le = refl
rows_below f E T (suc n) le =
    ap (λ k. sum_by f (filter_map (row_of T) (pairs_of (take k E)))) (sym (add-one n))
    ∙ step (period_of T n) refl (rows_below f E T n (omega arith))
  where
    step : (o : Option ℕ) → period_of T n ≡ o
        → sum_by f (filter_map (row_of T) (pairs_of (take n E)))
        ≡ sum_below n (λ e. if_placed (exam_sum f E e) (period_of T e))
        → sum_by f (filter_map (row_of T) (pairs_of (take (n + 1) E)))
        ≡ sum_below n (λ e. if_placed (exam_sum f E e) (period_of T e))
        + if_placed (exam_sum f E n) (period_of T n)
    step None is known = grind (arith, add-zero, rows_more_none)
    step (Some p) is known =
        ap (sum_by f) (rows_more_some E T n p (omega arith) is)
        ∙ sum_by-append f (filter_map (row_of T) (pairs_of (take n E)))
        (map (row_at p) (students E n))
        ∙ ap₂ (λ a b. a + b) known
        (mapped f p (students E n) ∙ ap (if_placed (exam_sum f E n)) (sym is))

pub rows_by_exam : (f : Row → ℕ) (E : Enrolled) (T : Placing)
    → sum_by f (filter_map (row_of T) (pairs_of E))
    ≡ sum_below (length E)
    (λ e. if_placed (λ p. sum_by (λ s. f (row_at p s)) (students E e)) (period_of T e))
rows_by_exam f E T =
    ap (λ F. sum_by f (filter_map (row_of T) (pairs_of F)))
    (sym (take_all (length E) E (omega arith)))
    ∙ rows_below f E T (length E) (omega arith)
