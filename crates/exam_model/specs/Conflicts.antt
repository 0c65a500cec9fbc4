-- The pairs of exams that share students, and those of one list of enrolments in order.
use Rattle.std.specs.Prelude.{◌≡◌, ℕ, zero, suc, ◌<◌, ◌≤◌, Bool, ◌&&◌, ◌==◌, if◌then◌else◌, List, [], ◌∷◌, ◌++◌, length, slice_index}
use Rattle.exam_model.specs.Enrolments.{Enrolled, shared_students}
use Rattle.exam_model.specs.declared.conflicts.Conflict.{Conflict}

-- the conflict of two exams that share n students; none if n is 0
abbrev pub conflict_if : ℕ → ℕ → ℕ → List Conflict
conflict_if e f n = if n == 0 then [] else record { exam = e; other = f; students = n } ∷ []

-- the conflicts of exam f with the exams below n
abbrev pub conflicts_with : Enrolled → ℕ → ℕ → List Conflict
conflicts_with E f zero = []
conflicts_with E f (suc n) = conflicts_with E f n ++ conflict_if n f (shared_students E n f)

-- the conflicts of the exams below n with smaller ones
abbrev pub conflicts_below : Enrolled → ℕ → List Conflict
conflicts_below E zero = []
conflicts_below E (suc f) = conflicts_below E f ++ conflicts_with E f f

-- all conflicts, by the greater exam and then by the smaller one
abbrev pub conflicts_of : Enrolled → List Conflict
conflicts_of E = conflicts_below E (length E)

-- whether it is the conflict of exams e and f
abbrev pub is_conflict : ℕ → ℕ → Conflict → Bool
is_conflict e f c = (c.exam == e) && (c.other == f)

-- nothing is counted
abbrev pub AreZeros : List ℕ → Type 0
AreZeros counts = (e : ℕ) → e < length counts → slice_index counts e ≡ 0

-- how many students each exam below f shares with exam f, and nothing for the others
pub record AreShared (E : Enrolled) (f : ℕ) (counts : List ℕ) : Type 0 where
  pub each : (e : ℕ) → e < f → slice_index counts e ≡ shared_students E e f
  pub others : (e : ℕ) → f ≤ e → slice_index counts e ≡ 0
