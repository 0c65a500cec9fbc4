-- The penalty of a timetable before and after a change of enrolments.
use Rattle.std.specs.Prelude.{◌≡◌, ℕ, false, List, [], ◌∷◌, Option, None, sum_by, if◌then◌else◌}
use Rattle.exam_model.specs.Enrolments.{Enrolled, has, has_number}
use Rattle.exam_model.specs.Fits.{period_of}
use Rattle.exam_model.specs.Instance.{Session}
use Rattle.exam_model.specs.Pairs.{pairs_of}
use Rattle.exam_model.specs.Timetable.{Placing}
use Rattle.exam_score.specs.Kinds.{cost_in, by_kind}
use Rattle.exam_score.specs.FrontLoad.{front_part}
use Rattle.exam_score.specs.Penalty.{Penalty, PersonalPenalty, with_pairs}
use Rattle.exam_score.specs.Personal.{personal_of}
use Rattle.exam_score.specs.Regrouping.{candidate_cost, periods_of}

-- every student who is not in the list sits the same exams after as before
abbrev pub OthersUnchanged : List ℕ → Enrolled → Enrolled → Type 0
OthersUnchanged students before after =
    (s e : ℕ) → has_number students s ≡ false → has after s e ≡ has before s e

-- the numbers in a list, each of them once
abbrev pub each_once : List ℕ → List ℕ
each_once [] = []
each_once (s ∷ rest) = if has_number rest s then each_once rest else s ∷ each_once rest

-- the period of an exam, if the student sits it and it is placed
abbrev pub sat_period : Enrolled → Placing → ℕ → ℕ → Option ℕ
sat_period E T s e = if has E s e then period_of T e else None

-- the personal penalty of a student
abbrev pub student_penalty : Session → Enrolled → Placing → ℕ → PersonalPenalty
student_penalty I E T s = personal_of I.periods I.weights (periods_of (pairs_of E) (period_of T) s)

-- the cost of the exams of these students, each student counted once
abbrev pub students_cost : (ℕ → ℕ → ℕ) → Enrolled → Placing → List ℕ → ℕ
students_cost cost E T students =
    sum_by (λ s. candidate_cost cost (periods_of (pairs_of E) (period_of T) s)) (each_once students)

-- their personal penalties, added up
abbrev pub students_penalty : Session → Enrolled → Placing → List ℕ → PersonalPenalty
students_penalty I E T students = by_kind (λ k. students_cost (cost_in I k) E T students)

-- the share of these students and of the front load in the penalty of a timetable
abbrev pub students_share : Session → Enrolled → Placing → List ℕ → Penalty
students_share I E T students =
    with_pairs (students_penalty I E T students) 0 (front_part I E T) 0 0
