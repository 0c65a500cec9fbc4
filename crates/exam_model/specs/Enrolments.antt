-- A set of pairs (student, exam), seen as the students of each exam in ascending order.
use Rattle.std.specs.Prelude.{◌≡◌, ℕ, ◌+◌, ◌<◌, ◌≤◌, Bool, true, false, not, ◌&&◌, ◌||◌, ◌==◌, if◌then◌else◌, List, [], length, slice_index, slice_index_or, sum_by, count_by, replicate}
use Rattle.std.specs.List.{list_any}
use Rattle.exam_terms.specs.declared.limits.TheConstants.{MAX_EXAMS, MAX_PAIRS, MAX_STUDENT}
use Rattle.exam_model.specs.declared.fault.ModelFault.{ModelFault}
use Rattle.exam_model.specs.declared.fault.ModelFault.TheVariants.{Range, NoSuch, NoMemory}

-- for each exam, in the order of the exams' numbers, its students
abbrev pub Enrolled : Type 0
Enrolled = List (List ℕ)

-- whether a number is in a list
abbrev pub has_number : List ℕ → ℕ → Bool
has_number numbers n = list_any (λ k. k == n) numbers

-- each number is greater than those before it
abbrev pub IsAscending : List ℕ → Type 0
IsAscending xs = (i j : ℕ) → i < j → j < length xs → slice_index xs i < slice_index xs j

-- each number is within the limit of students' numbers
abbrev pub AreNumbers : List ℕ → Type 0
AreNumbers xs = (s : ℕ) → has_number xs s ≡ true → s ≤ MAX_STUDENT

-- the students of an exam; none if there is no such exam
abbrev pub students : Enrolled → ℕ → List ℕ
students E e = slice_index_or E e []

-- whether the pair is in the set
abbrev pub has : Enrolled → ℕ → ℕ → Bool
has E s e = has_number (students E e) s

-- how many students are paired with the exam
abbrev pub size_of : Enrolled → ℕ → ℕ
size_of E e = length (students E e)

-- how many students are paired with both exams
abbrev pub shared_students : Enrolled → ℕ → ℕ → ℕ
shared_students E e f = count_by (λ s. has E s f) (students E e)

-- how many pairs there are
abbrev pub pair_count : Enrolled → ℕ
pair_count E = sum_by length E

-- the invariant of the type
pub record AreEnrolments (E : Enrolled) : Type 0 where
  pub exams : (1 ≤ length E) × (length E ≤ MAX_EXAMS)
  pub ascending : (e : ℕ) → e < length E → IsAscending (students E e)
  pub pairs : pair_count E ≤ MAX_PAIRS
  pub numbers : (e : ℕ) → AreNumbers (students E e)

-- no pairs, for this number of exams
abbrev pub no_pairs : ℕ → Enrolled
no_pairs exams = replicate exams []

-- new is the set old with the pair added
pub record Adds (old new : Enrolled) (s e : ℕ) : Type 0 where
  pub members : (t f : ℕ) → has new t f ≡ (((s == t) && (e == f)) || has old t f)
  pub exams : length new ≡ length old
  pub pairs : pair_count new ≡ (if has old s e then pair_count old else pair_count old + 1)

-- new is the set old without the pair
pub record Removes (old new : Enrolled) (s e : ℕ) : Type 0 where
  pub members : (t f : ℕ) → has new t f ≡ (not ((s == t) && (e == f)) && has old t f)
  pub exams : length new ≡ length old
  pub pairs : pair_count old ≡ (if has old s e then pair_count new + 1 else pair_count new)

-- why a pair is not added: first, there is no such exam; then, there is no room for a new pair
abbrev pub RefusesPair : Enrolled → ℕ → ℕ → ModelFault → Type 0
RefusesPair E s e NoSuch = length E ≤ e
RefusesPair E s e Range = (e < length E) × (has E s e ≡ false) × (pair_count E ≡ MAX_PAIRS)
RefusesPair E s e NoMemory = Unit {0}

-- why students are not put into an empty exam: there is no room for that many pairs
abbrev pub RefusesAll : Enrolled → List ℕ → ModelFault → Type 0
RefusesAll E xs NoSuch = ⊥
RefusesAll E xs Range = MAX_PAIRS < pair_count E + length xs
RefusesAll E xs NoMemory = Unit {0}
