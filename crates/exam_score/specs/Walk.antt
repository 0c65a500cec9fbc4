-- The cost of one student's rows by their periods.
use Rattle.std.specs.Prelude.{ℕ, ◌==◌, if◌then◌else◌, List}
use Rattle.exam_model.specs.Sums.{sum_pairs}
use Rattle.exam_score.specs.declared.rows.Row.{Row}

-- the cost of two rows; 0 if they are of different students
abbrev pub row_pair : (ℕ → ℕ → ℕ) → Row → Row → ℕ
row_pair cost x y = if y.student == x.student then cost x.period y.period else 0

-- the sum over all pairs of rows
abbrev pub cost_with : (ℕ → ℕ → ℕ) → List Row → ℕ
cost_with cost rows = sum_pairs (row_pair cost) rows
