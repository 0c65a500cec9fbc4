-- The values that a text describes are within their limits: an instance, its enrolments, and a
-- timetable of places that exist.
use Rattle.std.proofs.lemmas.Grind.{common_steps}
use Rattle.std.proofs.Common.{◌≡◌, ℕ, zero, suc, ◌+◌, ◌<◌, ◌≤◌, true, false, List, [], ◌∷◌, length, take, map, Some, Ok, get_or, add-one, inl, inr, refl, ap, sym, subst, ◌∙◌, arith}
use Rattle.std.specs.Prelude.{◌==◌, ◌||◌, nat_le, nat_lt}
use Rattle.std.proofs.lemmas.Bool.{cases_lt, eqb-true}
use Rattle.std.proofs.lemmas.List.{get_or_past, length-map, take_all}
use Rattle.std.proofs.lemmas.List.Sums.{sum_by-cons, sum_by_more}
use Rattle.std.proofs.lemmas.Option.{get_or_from_slice_get, slice_get-get_or, slice_get-map}
use Rattle.exam_terms.specs.Refusing.{unless}
use Rattle.exam_model.specs.Changes.{with_student}
use Rattle.exam_model.specs.Enrolments.{AreEnrolments, AreNumbers, Enrolled, IsAscending, has_number, pair_count, students}
use Rattle.exam_model.specs.Fits.{Suits}
use Rattle.exam_model.specs.Instance.{IsInstance, Session}
use Rattle.exam_model.specs.Timetable.{Placing}
use Rattle.exam_model.proofs.StudentLemmas.{ascending-none, ascending-with, has-with}
use Rattle.office_files.specs.ExamStudents.{students_in}
use Rattle.office_files.specs.ExamLines.{ExamLine, exam_line, pairs_on}
use Rattle.office_files.specs.Fields.{fields_of, first_field, other_fields}
use Rattle.office_files.specs.Spelled.{exams_heading}
use Rattle.office_files.specs.InstanceText.{InstanceText}
use Rattle.office_files.specs.Lines.{Located, lines_of}
use Rattle.office_files.specs.Numbers.{number}
use Rattle.office_files.specs.Reading.{Spell, at_line}
use Rattle.office_files.specs.SolutionText.{SolutionText, counts_in, timetable_in}
use Rattle.office_files.specs.declared.fault.FaultKind.TheVariants.{OutOfRange, TooLong}
use Rattle.office_files.proofs.ExamLinePairs.{room_left}
use Rattle.office_files.proofs.InstanceLaws.{sections_are_instance}
use Rattle.office_files.proofs.ReaderLaws.{solution_places}
use Rattle.office_files.proofs.ReadingLaws.{bind_ok, number_le, unless_ok}
use Rattle.office_files.proofs.SectionLaws.{counted_section}
use Rattle.office_files.proofs.SolutionLaws.{text_is_solution}

-- ---- the students of a line

-- ascending numbers of students, with whom the pairs are within their limit
record AreSitters (pairs : ℕ) (xs : List ℕ) : Type 0 where
  pub ascending : IsAscending xs
  pub numbers : AreNumbers xs
  pub few : pairs + length xs ≤ 200000

numbers_with : (s : ℕ) (xs : List ℕ) → s ≤ 999999999 → AreNumbers xs
    → AreNumbers (with_student s xs)
numbers_with s xs small known t there =
    elim (s == t) as (λ b. (s == t) ≡ b → (b || has_number xs t) ≡ true → t ≤ 999999999) [
      | true ↦ λ same any. let is = eqb-true s t same in omega arith
      | false ↦ λ other here. known t here
    ] refl (sym (has-with s xs t) ∙ there)

none_number : AreNumbers []
none_number t there = absurd (cc there)

sitters_read : (pairs : ℕ) (seen : List ℕ) (fields : List (List ℕ)) (out : List ℕ)
    → AreSitters pairs seen → students_in pairs seen fields ≡ Ok out → AreSitters pairs out
sitters_read pairs seen [] out were is = grind (arith, common_steps)
sitters_read pairs seen (f ∷ fs) out were is =
    let one = bind_ok (number 999999999 f) _ out is in
    let room = has_number seen one.0 || nat_lt (pairs + length seen) 200000 in
    let two = bind_ok (unless room OutOfRange) _ out one.2 in
    sitters_read pairs (with_student one.0 seen) fs out (record {
      ascending = ascending-with one.0 seen were.ascending;
      numbers = numbers_with one.0 seen (number_le 999999999 f one.0 one.1) were.numbers;
      few = room_left pairs seen one.0 were.ascending were.few
          (unless_ok room OutOfRange two.0 two.1);
    }) two.2

line_sitters : (before : List ExamLine) (fields : List (List ℕ)) (item : ExamLine)
    → pairs_on before ≤ 200000 → exam_line before fields ≡ Ok item
    → AreSitters (pairs_on before) item.students
line_sitters before fields item few is =
    let minutes = bind_ok (number 1440 (first_field fields)) _ item is in
    let sitters = bind_ok (students_in (pairs_on before) [] (other_fields fields)) _ item minutes.2 in
    let made : ◌≡◌ {A = ExamLine} (record { minutes = minutes.0; students = sitters.0 }) item =
    cc in
    subst (λ (x : ExamLine). AreSitters (pairs_on before) x.students) made
    (sitters_read (pairs_on before) [] (other_fields fields) sitters.0 (record {
      ascending = ascending-none;
      numbers = none_number;
      few = omega (arith, few);
    }) sitters.1)

-- ---- the lines of exams

pairs_listed : (items : List ExamLine)
    → pair_count (map (λ (x : ExamLine). x.students) items) ≡ pairs_on items
pairs_listed [] = refl
pairs_listed (x ∷ xs) = grind (arith, common_steps, pairs_listed xs, sum_by-cons)

abbrev no_exam : ExamLine
no_exam = record { minutes = 0; students = [] }

abbrev no_line : Located
no_line = record { line = 0; start = 0; end = 0; text = [] }

module _ (lines : List Located) (items : List ExamLine)
    (spelled : Spell exam_line lines items) where
  item_at : (k : ℕ) → k < length items → pairs_on (take k items) ≤ 200000
      → AreSitters (pairs_on (take k items)) (get_or items k no_exam).students
  item_at k within few =
      let line = get_or lines k no_line in
      line_sitters (take k items) (fields_of line.text) (get_or items k no_exam) few
      (spelled.each k line (get_or items k no_exam)
      (slice_get-get_or lines k no_line (omega (arith, within, spelled.as_many)))
      (slice_get-get_or items k no_exam within))

  few_on : (k : ℕ) → k ≤ length items → pairs_on (take k items) ≤ 200000
  few_on zero within = omega arith
  few_on (suc k) within =
      let less : k < length items = omega arith in
      let sitters = item_at k less (few_on k (omega arith)) in
      let more : pairs_on (take (suc k) items)
      ≡ pairs_on (take k items) + length (get_or items k no_exam).students
      = rw add-one at (sum_by_more (λ (x : ExamLine). length x.students) items k no_exam less) in
      omega (arith, more, sitters.few)

  sitters_at : (k : ℕ) → k < length items
      → AreSitters (pairs_on (take k items)) (get_or items k no_exam).students
  sitters_at k within = item_at k within (few_on k (omega arith))

  abbrev enrolled : Enrolled
  enrolled = map (λ (x : ExamLine). x.students) items

  students_at : (e : ℕ) → e < length items
      → students enrolled e ≡ (get_or items e no_exam).students
  students_at e within =
      grind (arith, common_steps, get_or_from_slice_get, slice_get-get_or, slice_get-map)

  listed_within : (1 ≤ length items) × (length items ≤ 2000) → AreEnrolments enrolled
  listed_within many = record {
    exams = (omega (arith, same, many.0), omega (arith, same, many.1));
    ascending = λ e exists.
        let within : e < length items = omega (arith, same, exists) in
        subst IsAscending (sym (students_at e within)) (sitters_at e within).ascending;
    pairs =
        let all = take_all (length items) items (omega arith) in
        let few = few_on (length items) (omega arith) in
        subst (λ (n : ℕ). n ≤ 200000) (ap pairs_on all ∙ sym (pairs_listed items)) few;
    numbers = λ e. elim (cases_lt e (length items)) as (λ _. AreNumbers (students enrolled e)) [
      | inl exists ↦ subst AreNumbers (sym (students_at e exists)) (sitters_at e exists).numbers
      | inr past ↦
          subst AreNumbers (sym (get_or_past enrolled e [] (omega (arith, same, past)))) none_number
    ];
  }
    where
      same : length enrolled ≡ length items
      same = length-map items (λ (x : ExamLine). x.students)

-- ---- the texts

pub session_within : (b : List ℕ) (I : Session) (E : Enrolled) → InstanceText b I E → IsInstance I
session_within b I E t =
    subst IsInstance (sym t.session)
    (sections_are_instance t.said (lines_of b) t.rest_after_exams t.rest_after_periods
    t.rest_after_rooms
    t.rest_after_period_rules t.rest_after_room_rules [] t.exams t.periods t.rooms t.period_rules
    t.room_rules t.weightings)

pub enrolments_within : (b : List ℕ) (I : Session) (E : Enrolled) → InstanceText b I E
    → AreEnrolments E
enrolments_within b I E t =
    subst AreEnrolments (sym t.enrolled)
    (listed_within t.exams.body t.said.exams t.exams.spelled
    (counted_section exams_heading exam_line 2000
    (lines_of b) t.said.exams t.rest_after_exams refl t.exams))

pub one_number : (b : List ℕ) (I : Session) (E : Enrolled) → InstanceText b I E
    → length E ≡ length I.exams
one_number b I E t = grind (arith, common_steps, length-map)

pub timetable_suits : (b : List ℕ) (I : Session) (T : Placing) → IsInstance I → SolutionText b I T
    → Suits I T
timetable_suits b I T known t =
    let short = at_line 0 (unless (nat_le (length b) 1048576) TooLong) in
    let read = bind_ok short (λ _. timetable_in (counts_in I) b) T (text_is_solution I b T t) in
    record {
      exams = ap (λ (xs : Placing). length xs) t.timetable ∙ length-map t.places Some ∙ t.complete;
      places = solution_places (λ (x : Placing). x) I b (counts_in I) refl refl
          known.limits.counts.1.0 known.limits.counts.2.0 (Ok T) read.2;
    }
