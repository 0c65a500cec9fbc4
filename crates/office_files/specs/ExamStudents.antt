-- The students of a line of the section of exams, each once, and its first field that names none.
use Rattle.std.specs.Prelude.{ℕ, ◌+◌, ◌||◌, nat_lt, List, [], ◌∷◌, length}
use Rattle.std.specs.Prelude.{Option, Some, None, Result, Ok, Err}
use Rattle.exam_terms.specs.declared.limits.TheConstants.{MAX_PAIRS, MAX_STUDENT}
use Rattle.exam_terms.specs.Refusing.{◌>>=◌, unless}
use Rattle.exam_model.specs.Changes.{with_student}
use Rattle.exam_model.specs.Enrolments.{has_number}
use Rattle.office_files.specs.Numbers.{number}
use Rattle.office_files.specs.declared.fault.FaultKind.{FaultKind}
use Rattle.office_files.specs.declared.fault.FaultKind.TheVariants.{OutOfRange}

-- the students of a line, after those seen on it and this many pairs on the lines before it: the
-- field of a new student is out of range if there are 200,000 pairs
abbrev pub students_in : ℕ → List ℕ → List (List ℕ) → Result (List ℕ) FaultKind
students_in pairs seen [] = Ok seen
students_in pairs seen (field ∷ fields) = do
  s ← number MAX_STUDENT field
  _ ← unless (has_number seen s || nat_lt (pairs + length seen) MAX_PAIRS) OutOfRange
  students_in pairs (with_student s seen) fields

-- an ascending list with students added, each once
abbrev pub with_students : List ℕ → List ℕ → List ℕ
with_students [] seen = seen
with_students (s ∷ ss) seen = with_students ss (with_student s seen)

-- a student in front of others, if a field names one
abbrev pub named_first : Result ℕ FaultKind → List ℕ → List ℕ
named_first (Ok s) names = s ∷ names
named_first (Err what) names = []

-- the students that fields name, up to the first field that names none
abbrev pub named_in : List (List ℕ) → List ℕ
named_in [] = []
named_in (field ∷ fields) = named_first (number MAX_STUDENT field) (named_in fields)

-- the fault of a field that names no student, or a later one
abbrev pub fault_first : Result ℕ FaultKind → Option FaultKind → Option FaultKind
fault_first (Ok s) later = later
fault_first (Err what) later = Some what

-- the fault of the first field that names no student
abbrev pub fault_in : List (List ℕ) → Option FaultKind
fault_in [] = None
fault_in (field ∷ fields) = fault_first (number MAX_STUDENT field) (fault_in fields)
