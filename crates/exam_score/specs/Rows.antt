-- A row for each pair of a student and a placed exam.
use Rattle.std.specs.Prelude.{ℕ, Option, option_map}
use Rattle.exam_model.specs.Pairs.{Pair}
use Rattle.exam_model.specs.Timetable.{Placing}
use Rattle.exam_model.specs.Fits.{period_of}
use Rattle.exam_score.specs.declared.rows.Row.{Row}

-- a student's row in a period
abbrev pub row_at : ℕ → ℕ → Row
row_at period student = record { student = student; period = period }

-- the row of a pair, if its exam is placed
abbrev pub row_of : Placing → Pair → Option Row
row_of T p = option_map (λ period. row_at period p.student) (period_of T p.exam)
