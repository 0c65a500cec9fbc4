-- How the limit of the pairs judges the students of a line, and the set with these students.
use Rattle.std.proofs.lemmas.Grind.{common_steps}
use Rattle.std.proofs.Common.{◌≡◌, ℕ, ◌+◌, ◌<◌, ◌≤◌, Bool, true, false, List, [], ◌∷◌}
use Rattle.std.proofs.Common.{length, set, Result, Ok, Err, Option, Some, None}
use Rattle.std.proofs.Common.{refl, arith}
use Rattle.std.specs.Prelude.{◌≢◌, ◌||◌, nat_lt}
use Rattle.std.proofs.lemmas.Bool.{ltb-true, lt-ltb}
use Rattle.std.proofs.lemmas.List.Sums.{sum_by-set}
use Rattle.exam_terms.specs.Refusing.{◌>>=◌, unless}
use Rattle.exam_model.specs.Enrolments.{Enrolled, IsAscending, RefusesAll, has_number}
use Rattle.exam_model.specs.Enrolments.{pair_count}
use Rattle.exam_model.specs.declared.fault.ModelFault.{ModelFault}
use Rattle.exam_model.specs.declared.fault.ModelFault.TheVariants.{Range, NoSuch, NoMemory}
use Rattle.office_files.specs.Numbers.{number}
use Rattle.exam_model.specs.Changes.{with_student}
use Rattle.office_files.specs.ExamStudents.{with_students, students_in}
use Rattle.office_files.specs.ExamLines.{IsEmptyExam}
use Rattle.office_files.specs.ExamStudents.{named_first, named_in, fault_first, fault_in}
use Rattle.office_files.specs.declared.fault.FaultKind.{FaultKind}
use Rattle.office_files.specs.declared.fault.FaultKind.TheVariants.{OutOfRange}
use Rattle.office_files.proofs.ExamLineLemmas.{with_again}
use Rattle.exam_model.proofs.StudentLemmas.{ascending-with}
use Rattle.office_files.proofs.ExamLineLemmas.{length-with_new, length-students}

-- the students, unless a field is faulty
abbrev pub judged : Option FaultKind → List ℕ → Result (List ℕ) FaultKind
judged None names = Ok names
judged (Some what) names = Err what

-- the student is there, or there is room for one more pair
abbrev has_room : ℕ → List ℕ → ℕ → Bool
has_room pairs seen s = has_number seen s || nat_lt (pairs + length seen) 200000

-- the reading of fields after the first was read
abbrev goes_on : ℕ → List ℕ → List (List ℕ) → Result ℕ FaultKind → Result (List ℕ) FaultKind
goes_on pairs seen fields field = do
  s ← field
  _ ← unless (has_room pairs seen s) OutOfRange
  students_in pairs (with_student s seen) fields

goes_on-room : (pairs : ℕ) (seen : List ℕ) (fields : List (List ℕ)) (s : ℕ) →
    has_room pairs seen s ≡ true →
    goes_on pairs seen fields (Ok s) ≡ students_in pairs (with_student s seen) fields
goes_on-room pairs seen fields s room = rw room refl

goes_on-full : (pairs : ℕ) (seen : List ℕ) (fields : List (List ℕ)) (s : ℕ) →
    has_room pairs seen s ≡ false → goes_on pairs seen fields (Ok s) ≡ Err OutOfRange
goes_on-full pairs seen fields s full = rw full refl

-- if the pairs with the student are within their limit, there is room
room_for : (pairs : ℕ) (seen : List ℕ) (s : ℕ) →
    pairs + length (with_student s seen) ≤ 200000 → has_room pairs seen s ≡ true
room_for pairs seen s within = grind (arith, common_steps, length-with_new, lt-ltb)

-- if there is room, the pairs with the student are within their limit
pub room_left : (pairs : ℕ) (seen : List ℕ) (s : ℕ) → IsAscending seen →
    pairs + length seen ≤ 200000 → has_room pairs seen s ≡ true →
    pairs + length (with_student s seen) ≤ 200000
room_left pairs seen s up within =
    grind (arith, common_steps, length-with_new, ltb-true, with_again)

-- the number of pairs with the students whom the good fields name
abbrev pub pairs_with : ℕ → List ℕ → List ℕ → ℕ
pairs_with pairs seen names = pairs + length (with_students names seen)

-- the good fields name the students
abbrev IsJudged : ℕ → List ℕ → List (List ℕ) → Type 0
IsJudged pairs seen fields =
    students_in pairs seen fields ≡ judged (fault_in fields) (with_students (named_in fields) seen)

within_by : (pairs : ℕ) (seen : List ℕ) (fields : List (List ℕ)) (r : Result ℕ FaultKind) →
    ((s : ℕ) → pairs_with pairs (with_student s seen) (named_in fields) ≤ 200000 →
    IsJudged pairs (with_student s seen) fields) →
    pairs_with pairs seen (named_first r (named_in fields)) ≤ 200000 →
    goes_on pairs seen fields r
    ≡ judged (fault_first r (fault_in fields))
    (with_students (named_first r (named_in fields)) seen)
within_by pairs seen fields (Ok s) later within =
    grind (arith, common_steps, goes_on-room, length-students, room_for)
within_by pairs seen fields (Err what) later within = refl

-- if there is room for all students whom the good fields name, these are the line's students
pub students_in-within : (pairs : ℕ) (seen : List ℕ) (fields : List (List ℕ)) →
    pairs_with pairs seen (named_in fields) ≤ 200000 → IsJudged pairs seen fields
students_in-within pairs seen [] within = refl
students_in-within pairs seen (field ∷ fields) within =
    within_by pairs seen fields (number 999999999 field)
    (λ s. students_in-within pairs (with_student s seen) fields) within

past_by : (pairs : ℕ) (seen : List ℕ) (fields : List (List ℕ)) (r : Result ℕ FaultKind) →
    IsAscending seen → pairs + length seen ≤ 200000 →
    ((s : ℕ) → pairs + length (with_student s seen) ≤ 200000 →
    200000 < pairs_with pairs (with_student s seen) (named_in fields) →
    students_in pairs (with_student s seen) fields ≡ Err OutOfRange) →
    200000 < pairs_with pairs seen (named_first r (named_in fields)) →
    goes_on pairs seen fields r ≡ Err OutOfRange
past_by pairs seen fields (Ok s) up within later past =
    grind (arith, common_steps, goes_on-full, goes_on-room, room_left)
past_by pairs seen fields (Err what) up within later past = absurd (omega arith)

-- if there isn't, a field is out of range
pub students_in-past : (pairs : ℕ) (seen : List ℕ) (fields : List (List ℕ)) →
    IsAscending seen → pairs + length seen ≤ 200000 →
    200000 < pairs_with pairs seen (named_in fields) →
    students_in pairs seen fields ≡ Err OutOfRange
students_in-past pairs seen [] up within past = absurd (omega arith)
students_in-past pairs seen (field ∷ fields) up within past =
    past_by pairs seen fields (number 999999999 field) up within
    (λ s. students_in-past pairs (with_student s seen) fields (ascending-with s seen up)) past

-- the number of pairs with these students in an exam that had none
pub pair_count-enrolled : (E : Enrolled) (e : ℕ) (sitters : List ℕ) → IsEmptyExam E e →
    pair_count (set E e sitters) ≡ pair_count E + length sitters
pair_count-enrolled E e sitters empty = grind (arith, common_steps, sum_by-set)

-- if students are refused and memory didn't run out, they are too many
pub too_many : (E : Enrolled) (sitters : List ℕ) (fault : ModelFault) →
    RefusesAll E sitters fault → fault ≢ NoMemory → 200000 < pair_count E + length sitters
too_many E sitters Range refuses other = refuses
too_many E sitters NoSuch refuses other = absurd refuses
too_many E sitters NoMemory refuses other = absurd (other refl)
