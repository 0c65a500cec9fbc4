-- The students who sit an exam are those whom the fields of its line name.
use Rattle.std.proofs.lemmas.Grind.{common_steps}
use Rattle.std.proofs.Common.{◌≡◌, ℕ, suc, ◌+◌, ◌<◌, List, [], ◌∷◌, ◌++◌, length, take, map, Some, Ok, get_or, ap, sym, ◌∙◌, add-one, arith}
use Rattle.std.specs.Prelude.{◌==◌, ◌||◌, nat_lt, option_map, slice_get, slice_index_or}
use Rattle.std.proofs.lemmas.List.{get_or_append_left, length-map}
use Rattle.std.proofs.lemmas.Option.{get_or_from_slice_get, slice_get-get_or, slice_get-map}
use Rattle.std.proofs.Math.Bool.{or-false, or_assoc}
use Rattle.exam_lists.proofs.Booleans.{or_middle}
use Rattle.exam_terms.specs.Refusing.{unless}
use Rattle.exam_model.specs.Changes.{with_student}
use Rattle.exam_model.specs.Enrolments.{Enrolled, has, has_number}
use Rattle.exam_model.specs.Instance.{Session}
use Rattle.exam_model.proofs.StudentLemmas.{has-with}
use Rattle.office_files.specs.ExamStudents.{students_in}
use Rattle.office_files.specs.ExamLines.{ExamLine, exam_line, exam_of, pairs_on}
use Rattle.office_files.specs.Names.{named_as, name_student}
use Rattle.office_files.specs.Fields.{fields_of, first_field, other_fields}
use Rattle.office_files.specs.InstanceText.{InstanceText}
use Rattle.office_files.specs.Lines.{Located, lines_of}
use Rattle.office_files.specs.Numbers.{number}
use Rattle.office_files.specs.declared.fault.FaultKind.TheVariants.{OutOfRange}
use Rattle.office_files.proofs.ReadingLaws.{bind_ok}

-- the students of a line are those seen before, and those whom its fields name
named : (pairs : ℕ) (seen : List ℕ) (fields : List (List ℕ)) (out : List ℕ)
    → students_in pairs seen fields ≡ Ok out
    → (t : ℕ) → has_number out t ≡ (has_number seen t || name_student fields t)
named pairs seen [] out is t = grind (arith, common_steps, or-false)
named pairs seen (f ∷ fs) out is t =
    let one = bind_ok (number 999999999 f) _ out is in
    let two = bind_ok
    (unless (has_number seen one.0 || nat_lt (pairs + length seen) 200000) OutOfRange) _ out
    one.2 in
    named pairs (with_student one.0 seen) fs out two.2 t
    ∙ ap (λ b. b || name_student fs t) (has-with one.0 seen t)
    ∙ or_assoc (one.0 == t) (has_number seen t) (name_student fs t)
    ∙ or_middle (one.0 == t) (has_number seen t) (name_student fs t)
    ∙ ap (λ r. has_number seen t || (named_as r t || name_student fs t)) (sym one.1)

line_named : (before : List ExamLine) (fields : List (List ℕ)) (item : ExamLine) (t : ℕ)
    → exam_line before fields ≡ Ok item → has_number item.students t ≡ name_student (other_fields fields) t
line_named before fields item t is =
    let minutes = bind_ok (number 1440 (first_field fields)) _ item is in
    let students = bind_ok (students_in (pairs_on before) [] (other_fields fields)) _ item minutes.2 in
    let made : ◌≡◌ {A = ExamLine} (record { minutes = minutes.0; students = students.0 }) item =
    cc in
    ap (λ (x : ExamLine). has_number x.students t) (sym made)
    ∙ named (pairs_on before) [] (other_fields fields) students.0 students.1 t

-- a line after the first is one of the others
line_of_body : (x : Located) (body after : List Located) (e : ℕ) (line : Located) → e < length body
    → slice_get (x ∷ (body ++ after)) (e + 1) ≡ Some line → slice_get body e ≡ Some line
line_of_body x body after e line lt is =
    let later : get_or (body ++ after) e line ≡ line
    = get_or_from_slice_get (x ∷ (body ++ after)) (suc e) line line (rw add-one at is) in
    slice_get-get_or body e line lt
    ∙ ap Some (sym (get_or_append_left body after line e lt) ∙ later)

pub sits_as_named : (b : List ℕ) (I : Session) (E : Enrolled) (s e : ℕ) (line : Located)
    → InstanceText b I E → e < length I.exams → slice_get (lines_of b) (e + 1) ≡ Some line
    → has E s e ≡ name_student (other_fields (fields_of line.text)) s
sits_as_named b I E s e line t lt at =
    let items = t.said.exams in
    let body = t.exams.body in
    let many : length I.exams ≡ length items =
    ap (λ (x : Session). length x.exams) t.session ∙ length-map items exam_of in
    let within : e < length items = omega arith in
    let d : ExamLine = record { minutes = 0; students = [] } in
    let item = get_or items e d in
    let here : slice_get items e ≡ Some item = slice_get-get_or items e d within in
    let lines : slice_get body e ≡ Some line
    = line_of_body t.exams.header body t.rest_after_exams e line
    (omega (arith, t.exams.spelled.as_many))
    (ap (λ xs. slice_get xs (e + 1)) (sym t.exams.cut) ∙ at) in
    let read = t.exams.spelled.each e line item lines here in
    let listed : slice_index_or E e [] ≡ item.students
    = ap (λ (xs : Enrolled). slice_index_or xs e []) t.enrolled
    ∙ get_or_from_slice_get (map (λ (x : ExamLine). x.students) items) e item.students []
    (slice_get-map (λ (x : ExamLine). x.students) items e
    ∙ ap (λ o. option_map (λ (x : ExamLine). x.students) o) here) in
    ap (λ (xs : List ℕ). has_number xs s) listed
    ∙ line_named (take e items) (fields_of line.text) item s read
