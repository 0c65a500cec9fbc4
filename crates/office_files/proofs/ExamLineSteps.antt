-- The values of a line of the section of exams, and the lines so far.
use Rattle.std.proofs.lemmas.Grind.{common_steps}
use Rattle.std.proofs.Common.{◌≡◌, ℕ, suc, ◌+◌, ◌-◌, ◌<◌, List, [], ◌∷◌, ◌++◌, length, set, take}
use Rattle.std.proofs.Common.{Result, Ok, Err, Option, Some, None, refl, ap, sym, ◌∙◌, arith}
use Rattle.std.proofs.Common.{append_assoc}
use Rattle.std.specs.Prelude.{map, sum_by}
use Rattle.std.proofs.lemmas.List.{length-append, length-map, map_push, set_at}
use Rattle.std.proofs.lemmas.List.Sums.{sum_by-append, sum_by-cons}
use Rattle.std.proofs.lemmas.List.Folds.{sum_by-replicate}
use Rattle.exam_terms.specs.Refusing.{◌>>=◌}
use Rattle.exam_model.specs.Enrolments.{Enrolled, AreEnrolments, pair_count, no_pairs}
use Rattle.exam_model.specs.declared.parts.Exam.{Exam}
use Rattle.office_files.specs.Fields.{fields_of, first_field, other_fields}
use Rattle.office_files.specs.Lines.{Located}
use Rattle.office_files.specs.Numbers.{number}
use Rattle.office_files.specs.Reading.{items_of}
use Rattle.office_files.specs.ExamLines.{ExamLine, exam_line, exam_after_pairs, exam_of, pairs_on}
use Rattle.office_files.specs.ExamStudents.{students_in}
use Rattle.office_files.specs.ExamLines.{EntersLine, IsEmptyExam}
use Rattle.office_files.specs.ExamStudents.{with_students, named_in, fault_in}
use Rattle.office_files.specs.declared.fault.FaultKind.{FaultKind}
use Rattle.office_files.specs.declared.fault.FaultKind.TheVariants.{OutOfRange}
use Rattle.exam_model.proofs.StudentLemmas.{ascending-none}
use Rattle.office_files.proofs.ExamLinePairs.{judged, students_in-within, students_in-past}
use Rattle.office_files.proofs.ExamLinePairs.{pair_count-enrolled}

-- a line with these minutes has the values of its students' fields
after_minutes : (pairs minutes : ℕ) (fields : List (List ℕ)) (r : Result (List ℕ) FaultKind) →
    number 1440 (first_field fields) ≡ Ok minutes → students_in pairs [] (other_fields fields) ≡ r →
    exam_after_pairs pairs fields ≡ (r >>= λ names. Ok
    (record { minutes = minutes; students = names }))
after_minutes pairs minutes fields r is said = rw (is, said) refl

-- the part of a line that was read: its minutes, and the students up to the first fault, ascending
pub record IsReadOf (fields : List (List ℕ)) (minutes : ℕ) (sitters : List ℕ)
    (fault : Option FaultKind) : Type 0 where
  pub minutes_are : number 1440 (first_field fields) ≡ Ok minutes
  pub students_are : sitters ≡ with_students (named_in (other_fields fields)) []
  pub fault_is : fault ≡ fault_in (other_fields fields)

-- the results of the calls on a line
pub read_of : (fields now tail : List (List ℕ)) (minutes : ℕ) (named ordered sitters : List ℕ)
    (fault : Option FaultKind) →
    now ≡ fields → Ok minutes ≡ number 1440 (first_field now) → tail ≡ other_fields now →
    named ≡ named_in tail → fault ≡ fault_in tail → ordered ≡ with_students named [] →
    sitters ≡ ordered → IsReadOf fields minutes sitters fault
read_of fields now tail minutes named ordered sitters fault all is others names faulty order same =
    grind (arith, common_steps)

module _ (E : Enrolled) (e : ℕ) (fields : List (List ℕ)) (minutes : ℕ) (sitters : List ℕ)
    (fault : Option FaultKind) (empty : IsEmptyExam E e)
    (is : IsReadOf fields minutes sitters fault) where
  -- if all students are added, only a field of the line can be faulty
  line_within : (new : Enrolled) → new ≡ set E e sitters → AreEnrolments new →
      exam_after_pairs (pair_count E) fields
      ≡ (judged fault sitters >>= λ xs. Ok (record { minutes = minutes; students = xs }))
  line_within new changed kept =
      grind (arith, common_steps, after_minutes, judged, pair_count-enrolled, students_in-within)

  -- a line without a fault
  pub line_entered : (new : Enrolled) → fault ≡ None → new ≡ set E e sitters → AreEnrolments new →
      EntersLine E new e fields (record { minutes = minutes })
  line_entered new good changed kept = record {
    said = record { minutes = minutes; students = sitters };
    read = rw good at (line_within new changed kept);
    is_exam = refl;
    changed = changed;
    kept = kept;
  }

  -- a line with a faulty field
  pub line_faulty : (new : Enrolled) (what : FaultKind) → fault ≡ Some what →
      new ≡ set E e sitters → AreEnrolments new → exam_after_pairs (pair_count E) fields ≡ Err what
  line_faulty new what bad changed kept = rw bad at (line_within new changed kept)

  -- a line with too many students
  pub line_past : 200000 < pair_count E + length sitters →
      exam_after_pairs (pair_count E) fields ≡ Err OutOfRange
  line_past past = grind (arith, common_steps, after_minutes, ascending-none, students_in-past)

-- the pairs on lines are those of their students
sum_by-students : (lines : List ExamLine) →
    sum_by length (map (λ line. line.students) lines) ≡ pairs_on lines
sum_by-students [] = refl
sum_by-students (line ∷ lines) = grind (arith, common_steps, sum_by-students lines, sum_by-cons)

-- the item of a line is added after those of the lines before it
items-more : (before : List ExamLine) (said : ExamLine) (row : Located) (rows : List Located)
    (n : ℕ) → exam_line before (fields_of row.text) ≡ Ok said →
    items_of exam_line before (take (suc n) (row ∷ rows))
    ≡ items_of exam_line (before ++ said ∷ []) (take n rows)
items-more before said row rows n is = rw is refl

-- a line with a fault is the fault of all
items-fault : (before : List ExamLine) (what : FaultKind) (row : Located) (rows : List Located)
    (n : ℕ) → exam_line before (fields_of row.text) ≡ Err what →
    items_of exam_line before (take (suc n) (row ∷ rows))
    ≡ Err (record { line = row.line; what = what })
items-fault before what row rows n is = rw is refl

-- this many of the lines were read, with these exams and pairs; the exams of the others have none
pub record IsSoFar (all left : List Located) (count done : ℕ) (exams : List Exam)
    (E : Enrolled) : Type 0 where
  pub before : List ExamLine
  pub number : length before ≡ done
  pub read : items_of exam_line before (take (count - done) left)
      ≡ items_of exam_line [] (take count all)
  pub are_exams : exams ≡ map exam_of before
  pub are_students : E ≡ map (λ line. line.students) before ++ no_pairs (count - done)

module _ (all left : List Located) (count done : ℕ) (exams : List Exam) (E : Enrolled)
    (lt : done < count) (so_far : IsSoFar all left count done exams E) (row : Located)
    (rows : List Located) (next : left ≡ row ∷ rows) where
  abbrev others : ℕ
  others = count - (done + 1)

  one_more : count - done ≡ suc others
  one_more = omega arith

  abbrev enrolled : List (List ℕ)
  enrolled = map (λ line. line.students) so_far.before

  -- the number of pairs is that on the lines
  pairs_are : pair_count E ≡ pairs_on so_far.before
  pairs_are = grind (arith, common_steps, sum_by-append, sum_by-replicate, sum_by-students)

  said_so : exam_line so_far.before (fields_of row.text)
      ≡ exam_after_pairs (pair_count E) (fields_of row.text)
  said_so = ap (λ k. exam_after_pairs k (fields_of row.text)) (sym pairs_are)

  whole : items_of exam_line so_far.before (take (suc others) (row ∷ rows))
      ≡ items_of exam_line [] (take count all)
  whole = grind (arith, common_steps, one_more)

  -- a faulty line is the fault of all
  pub so_far_fault : (what : FaultKind) →
      exam_after_pairs (pair_count E) (fields_of row.text) ≡ Err what →
      items_of exam_line [] (take count all) ≡ Err (record { line = row.line; what = what })
  so_far_fault what bad =
      sym whole ∙ items-fault so_far.before what row rows others (said_so ∙ bad)

  -- an exam's students are added after those of the exams before it
  enrolled-more : (sitters : List ℕ) →
      set E done sitters ≡ (enrolled ++ sitters ∷ []) ++ no_pairs others
  enrolled-more sitters = grind (arith, common_steps, append_assoc, length-map, one_more, set_at)

  -- one more line
  pub so_far_more : (made : Exam) (new : Enrolled) →
      EntersLine E new done (fields_of row.text) made →
      IsSoFar all rows count (done + 1) (exams ++ made ∷ []) new
  so_far_more made new entered =
      grind (
        arith,
        common_steps,
        enrolled-more,
        items-more,
        length-append,
        map_push,
        said_so,
        whole,
      )
