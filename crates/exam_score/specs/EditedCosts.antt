-- The cost of edited exams for their students, by pairs of exams with an edited one.
use Rattle.std.specs.Prelude.{ℕ, ◌==◌, ◌||◌, ◌&&◌, nat_le, if◌then◌else◌, List}
use Rattle.exam_model.specs.Fits.{period_of}
use Rattle.exam_model.specs.Instance.{Session}
use Rattle.exam_model.specs.PairCost.{cost_between}
use Rattle.exam_model.specs.Pairs.{Pair}
use Rattle.exam_model.specs.Sums.{sum_pairs}
use Rattle.exam_model.specs.Timetable.{Placing}
use Rattle.exam_model.specs.Enrolments.{has_number}
use Rattle.exam_score.specs.Kinds.{cost_in, by_kind}
use Rattle.exam_score.specs.Penalty.{PersonalPenalty}

-- the cost of two exams of a student if one of them is edited, else 0: an edit doesn't change the
-- cost of any other two
abbrev pub edited_cost : (ℕ → ℕ → ℕ) → Placing → List ℕ → ℕ → ℕ → ℕ
edited_cost cost T edited e f =
    if has_number edited e || has_number edited f
    then cost_between cost (period_of T e) (period_of T f) else 0

-- its sum over all pairs of exams of one student
abbrev pub students_cost : (ℕ → ℕ → ℕ) → Placing → List ℕ → List Pair → ℕ
students_cost cost T edited pairs = sum_pairs (λ p q.
    if q.student == p.student then edited_cost cost T edited p.exam q.exam else 0) pairs

-- the share of the edited exams in the personal penalties of all students of these pairs, added up
abbrev pub personal_sum : Session → Placing → List ℕ → List Pair → PersonalPenalty
personal_sum I T edited pairs = by_kind (λ k. students_cost (cost_in I k) T edited pairs)

-- the cost of the pairs of these exams that have an edited one
abbrev pub exams_cost : (ℕ → ℕ → ℕ) → Placing → List ℕ → List ℕ → ℕ
exams_cost cost T edited exams = sum_pairs (edited_cost cost T edited) exams

-- the cost of an edited exam with another one: two edited ones cost it at the smaller
abbrev pub cost_at : (ℕ → ℕ → ℕ) → Placing → List ℕ → ℕ → ℕ → ℕ
cost_at cost T edited e f =
    if has_number edited f && nat_le f e then 0
    else cost_between cost (period_of T e) (period_of T f)

-- the share of the edited exams in the personal penalty of a student who sits these exams
abbrev pub personal_at : Session → Placing → List ℕ → List ℕ → PersonalPenalty
personal_at I T edited exams = by_kind (λ k. exams_cost (cost_in I k) T edited exams)
