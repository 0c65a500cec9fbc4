-- The values of the lines of the section of exams: a duration, and the students who sit the exam.
use Rattle.std.specs.Prelude.{◌≡◌, ℕ, ◌<◌, List, [], length, map, sum_by, slice_set, Result, Ok}
use Rattle.exam_terms.specs.declared.limits.TheConstants.{MAX_MINUTES}
use Rattle.exam_terms.specs.Refusing.{◌>>=◌}
use Rattle.exam_model.specs.Enrolments.{Enrolled, AreEnrolments, students, pair_count}
use Rattle.exam_model.specs.declared.parts.Exam.{Exam}
use Rattle.office_files.specs.Fields.{first_field, other_fields}
use Rattle.office_files.specs.Lines.{Located}
use Rattle.office_files.specs.Numbers.{number}
use Rattle.office_files.specs.Reading.{items_of}
use Rattle.office_files.specs.ExamStudents.{students_in}
use Rattle.office_files.specs.declared.fault.FaultKind.{FaultKind}

-- an exam with its students, ascending
pub record ExamLine : Type 0 where
  pub minutes : ℕ
  pub students : List ℕ

-- the number of pairs on lines
abbrev pub pairs_on : List ExamLine → ℕ
pairs_on lines = sum_by (λ line. length line.students) lines

-- a line of the section of exams, after this many pairs
abbrev pub exam_after_pairs : ℕ → List (List ℕ) → Result ExamLine FaultKind
exam_after_pairs pairs fields = do
  minutes ← number MAX_MINUTES (first_field fields)
  students ← students_in pairs [] (other_fields fields)
  Ok (record { minutes = minutes; students = students })

-- a line of the section of exams
abbrev pub exam_line : List ExamLine → List (List ℕ) → Result ExamLine FaultKind
exam_line before fields = exam_after_pairs (pairs_on before) fields

-- the exam of a line
abbrev pub exam_of : ExamLine → Exam
exam_of line = record { minutes = line.minutes }

-- the values of lines of the section of exams: their exams in order, and the students who sit each
pub record LinesGiveExams (lines : List Located) (exams : List Exam) (E : Enrolled) : Type 0 where
  pub said : List ExamLine
  pub read : items_of exam_line [] lines ≡ Ok said
  pub are_exams : exams ≡ map exam_of said
  pub are_students : E ≡ map (λ line. line.students) said

-- an exam of the set that has no students yet
pub record IsEmptyExam (E : Enrolled) (exam : ℕ) : Type 0 where
  pub exists : exam < length E
  pub none : students E exam ≡ []
  pub kept : AreEnrolments E

-- a line's exam was read, and the line's students were put into the exam of that number
pub record EntersLine (old new : Enrolled) (exam : ℕ) (fields : List (List ℕ))
    (made : Exam) : Type 0 where
  pub said : ExamLine
  pub read : exam_after_pairs (pair_count old) fields ≡ Ok said
  pub is_exam : made ≡ exam_of said
  pub changed : new ≡ slice_set old exam said.students
  pub kept : AreEnrolments new
