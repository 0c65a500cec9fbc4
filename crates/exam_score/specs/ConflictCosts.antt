-- The cost of a timetable over the pairs of exams that share students.
use Rattle.std.specs.Prelude.{◌≡◌, ℕ, ◌+◌, ◌*◌, ◌<◌, ◌≤◌, List, length, sum_by, All}
use Rattle.exam_terms.specs.declared.limits.TheConstants.{MAX_AMOUNT, MAX_PAIRS}
use Rattle.exam_model.specs.declared.conflicts.Conflict.{Conflict}
use Rattle.exam_model.specs.Fits.{period_of}
use Rattle.exam_model.specs.Instance.{Session}
use Rattle.exam_model.specs.PairCost.{cost_between}
use Rattle.exam_model.specs.Timetable.{Placing}
use Rattle.exam_score.specs.Kinds.{TableKind, table_cost}

-- the cost of the periods of two exams, for each student whom they share
abbrev pub conflict_cost : (ℕ → ℕ → ℕ) → Placing → Conflict → ℕ
conflict_cost cost T c =
    c.students * cost_between cost (period_of T c.exam) (period_of T c.other)

-- the sum over a list of conflicts
abbrev pub conflicts_cost : (ℕ → ℕ → ℕ) → Placing → List Conflict → ℕ
conflicts_cost cost T conflicts = sum_by (conflict_cost cost T) conflicts

-- the sum is no greater than that of a whole timetable can be
abbrev pub IsSmallCost : (ℕ → ℕ → ℕ) → Placing → List Conflict → Type 0
IsSmallCost cost T conflicts = conflicts_cost cost T conflicts ≤ MAX_PAIRS * MAX_PAIRS * MAX_AMOUNT

-- both exams of each conflict are in the timetable
abbrev pub AreInTimetable : Placing → List Conflict → Type 0
AreInTimetable T conflicts = All (λ c. (c.exam < length T) × (c.other < length T)) conflicts

-- two periods farther apart than n cost nothing
pub record IsReach (I : Session) (n : ℕ) : Type 0 where
  pub free : (k : TableKind) (p q : ℕ) → q + n < p → table_cost I k q p ≡ 0
