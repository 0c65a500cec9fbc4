-- The exams of each student in each period, as counted by tallies.
use Rattle.std.specs.Prelude.{◌≡◌, ℕ, ◌*◌, List, Option, Some, None, sum_by}
use Rattle.exam_model.specs.Enrolments.{Enrolled, students}
use Rattle.exam_model.specs.Sums.{sum_pairs}
use Rattle.exam_score.specs.Rows.{row_at}
use Rattle.exam_score.specs.Walk.{row_pair}
use Rattle.exam_score.specs.declared.rows.Row.{Row}
use Rattle.exam_score.specs.declared.sittings.PlacedExam.{PlacedExam}
use Rattle.exam_score.specs.declared.tallies.Tally.{Tally}

-- g of the period of an exam; 0 if it is not placed
abbrev pub if_placed : (ℕ → ℕ) → Option ℕ → ℕ
if_placed g None = 0
if_placed g (Some p) = g p

-- f summed over the rows of a sitting: one for each of its students
abbrev pub sitting_sum : Enrolled → (Row → ℕ) → PlacedExam → ℕ
sitting_sum E f x = sum_by (λ s. f (row_at x.period s)) (students E x.exam)

-- f summed over the rows that a tally counts
abbrev pub tally_sum : (Row → ℕ) → Tally → ℕ
tally_sum f x = x.exams * f (row_at x.period x.student)

-- the tallies count exactly the rows of the sittings: every sum agrees
abbrev pub AreCounted : Enrolled → List PlacedExam → List Tally → Type 0
AreCounted E sittings tallies =
    (f : Row → ℕ) → sum_by (sitting_sum E f) sittings ≡ sum_by (tally_sum f) tallies

-- how many rows the tallies count
abbrev pub row_count : List Tally → ℕ
row_count tallies = sum_by (tally_sum (λ r. 1)) tallies

-- the cost of one exam of tally y with those of x; 0 if they are of different students
abbrev pub cost_with_tally : (ℕ → ℕ → ℕ) → Tally → Tally → ℕ
cost_with_tally cost y x = tally_sum (λ r. row_pair cost r (row_at y.period y.student)) x

-- the cost of the exams of two tallies
abbrev pub tally_pair : (ℕ → ℕ → ℕ) → Tally → Tally → ℕ
tally_pair cost x y = cost_with_tally cost y x * y.exams

-- the sum over all pairs of tallies
abbrev pub tally_cost : (ℕ → ℕ → ℕ) → List Tally → ℕ
tally_cost cost tallies = sum_pairs (tally_pair cost) tallies
