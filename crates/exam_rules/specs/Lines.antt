-- The exams that a line of the rules names.
use Rattle.std.specs.Prelude.{ℕ, Bool, false, ◌&&◌, ◌||◌, ◌==◌}
use Rattle.exam_model.specs.declared.rules.RoomRule.{RoomRule}
use Rattle.exam_model.specs.declared.rules.PeriodRule.{PeriodRule}
use Rattle.exam_model.specs.declared.rules.PeriodRule.TheVariants.{After, Coincidence, Exclusion}

-- whether the line puts e after f
abbrev pub is_after : ℕ → ℕ → PeriodRule → Bool
is_after e f (After a b) = (a == e) && (b == f)
is_after e f (Coincidence a b) = false
is_after e f (Exclusion a b) = false

-- whether a and b are e and f, in either order
abbrev pub are_both : ℕ → ℕ → ℕ → ℕ → Bool
are_both e f a b = ((a == e) && (b == f)) || ((a == f) && (b == e))

-- whether the line puts e and f in one period
abbrev pub is_coincidence : ℕ → ℕ → PeriodRule → Bool
is_coincidence e f (After a b) = false
is_coincidence e f (Coincidence a b) = are_both e f a b
is_coincidence e f (Exclusion a b) = false

-- whether the line puts e and f in different periods
abbrev pub is_exclusion : ℕ → ℕ → PeriodRule → Bool
is_exclusion e f (After a b) = false
is_exclusion e f (Coincidence a b) = false
is_exclusion e f (Exclusion a b) = are_both e f a b

-- whether the line gives e its room to itself
abbrev pub is_exclusive : ℕ → RoomRule → Bool
is_exclusive e line = line.0 == e

-- whether the line names the exam
abbrev pub line_names : PeriodRule → ℕ → Bool
line_names (After a b) e = (e == a) || (e == b)
line_names (Coincidence a b) e = (e == a) || (e == b)
line_names (Exclusion a b) e = (e == a) || (e == b)
