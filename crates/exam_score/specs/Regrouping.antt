-- The penalty by pairs of exams, and by pairs of a student's exams.
use Rattle.std.specs.Prelude.{◌≡◌, ◌≢◌, ℕ, ◌*◌, ◌==◌, true, List, length, map, filter, filter_map, Option, All, AllPairs}
use Rattle.exam_model.specs.Enrolments.{Enrolled, has_number, shared_students}
use Rattle.exam_model.specs.PairCost.{cost_between}
use Rattle.exam_model.specs.Pairs.{Pair, pairs_of}
use Rattle.exam_model.specs.Sums.{sum_pairs, sum_pairs_below}

-- the sum over all pairs of exams, the smaller first: the number of students who sit both, times
-- the cost of their periods
abbrev pub pair_part : (ℕ → ℕ → ℕ) → Enrolled → (ℕ → Option ℕ) → ℕ
pair_part cost E at =
    sum_pairs_below (length E) (λ e f. shared_students E e f * cost_between cost (at e) (at f))

-- the exams of a student, ascending
abbrev pub exams_of : List Pair → ℕ → List ℕ
exams_of pairs s = map (λ p. p.exam) (filter (λ p. p.student == s) pairs)

-- the periods of a student's exams, as far as they are placed
abbrev pub periods_of : List Pair → (ℕ → Option ℕ) → ℕ → List ℕ
periods_of pairs at s = filter_map at (exams_of pairs s)

-- the cost over all pairs of places in a list of periods
abbrev pub candidate_cost : (ℕ → ℕ → ℕ) → List ℕ → ℕ
candidate_cost cost periods = sum_pairs cost periods

-- a list of all students of the pairs, without repeats
pub record AreStudentsOf (E : Enrolled) (students : List ℕ) : Type 0 where
  pub once : AllPairs (λ s t. s ≢ t) students
  pub all : All (λ p. has_number students p.student ≡ true) (pairs_of E)
