-- A reading is refused with the first fault of the file, and exactly if there is one.
use Rattle.std.proofs.lemmas.Grind.{common_steps}
use Rattle.std.proofs.Common.{◌≡◌, ◌≢◌, ℕ, ◌+◌, ◌<◌, ◌≤◌, Bool, true, false, List, [], ◌∷◌, ◌++◌}
use Rattle.std.proofs.Common.{length, map, IfOk, IfErr, Option, Some, None, Result, Ok, Err, refl}
use Rattle.std.proofs.Common.{ap, sym, ◌∙◌, arith, inl, inr}
use Rattle.std.specs.Prelude.{if◌then◌else◌, nat_lt, nat_le, ◌==◌}
use Rattle.std.proofs.lemmas.Bool.{cases_Bool, ltb-true, ltb-false, eq-eqb, ne_eqb}
use Rattle.exam_terms.specs.Refusing.{◌>>=◌, unless}
use Rattle.exam_model.specs.Enrolments.{Enrolled}
use Rattle.exam_model.specs.Instance.{Session}
use Rattle.exam_model.specs.Timetable.{Placing}
use Rattle.exam_terms.specs.declared.place.Place.{Place}
use Rattle.office_files.specs.ExamLines.{ExamLine, exam_line}
use Rattle.office_files.specs.Fields.{fields_of}
use Rattle.office_files.specs.Reading.{fault_of}
use Rattle.office_files.specs.LineFaults.{at_start}
use Rattle.office_files.specs.FirstFault.{first_from, first_fault}
use Rattle.office_files.specs.FirstFault.{first_place_fault, first_solution_fault}
use Rattle.office_files.specs.Spelled.{exams_heading, periods_heading, rooms_heading}
use Rattle.office_files.specs.Spelled.{period_rules_heading, room_rules_heading}
use Rattle.office_files.specs.Spelled.{weightings_heading, session_of, enrolled_of}
use Rattle.office_files.specs.InstanceText.{no_more, later_sections, instance_in}
use Rattle.office_files.specs.ItemLines.{period_line, room_line, period_rule_line, room_rule_line}
use Rattle.office_files.specs.ItemLines.{place_line}
use Rattle.office_files.specs.Lines.{Located, is_header, lines_of, line_count}
use Rattle.office_files.specs.Reading.{at_line, items_of, AnswersReading}
use Rattle.office_files.specs.Sections.{section_in, AtHeader}
use Rattle.office_files.specs.SolutionText.{solution_in}
use Rattle.office_files.specs.Weightings.{weighting_line}
use Rattle.office_files.specs.declared.counts.Counts.{Counts}
use Rattle.office_files.specs.declared.fault.FaultKind.TheVariants.{TooLong, CountMismatch}
use Rattle.office_files.specs.declared.fault.FaultKind.TheVariants.{NoMemory}
use Rattle.office_files.specs.declared.fault.FileFault.{FileFault}
use Rattle.office_files.proofs.FaultLemmas.{fault_or, fault_only, first_step, first_line}
use Rattle.office_files.proofs.FaultLemmas.{items_push, at_header, Judges, section_first}
use Rattle.office_files.proofs.FaultLemmas.{section_step}
use Rattle.office_files.proofs.ReadingLaws.{bind_ok, unless_ok, items_length, items_within}
use Rattle.office_files.proofs.SectionLaws.{section_is}

-- the numbers that the later sections are judged by
abbrev among : ℕ → Counts
among exams = record { exams = exams; periods = 0; rooms = 0 }

-- how the lines of each section are judged
exams_judge : Judges exams_heading exam_line 0 (λ lines. lines)
exams_judge =
    record { few = refl; header = λ _ _. refl; line = λ _ _ _. refl; more = λ _. refl }

periods_judge : (n : ℕ) → Judges periods_heading (period_line (among n)) 1 (λ _. n)
periods_judge n =
    record { few = refl; header = λ _ _. refl; line = λ _ _ _. refl; more = λ _. refl }

rooms_judge : (n : ℕ) → Judges rooms_heading (room_line (among n)) 2 (λ _. n)
rooms_judge n =
    record { few = refl; header = λ _ _. refl; line = λ _ _ _. refl; more = λ _. refl }

period_rules_judge : (n : ℕ) →
    Judges period_rules_heading (period_rule_line (among n)) 3 (λ _. n)
period_rules_judge n =
    record { few = refl; header = λ _ _. refl; line = λ _ _ _. refl; more = λ _. refl }

room_rules_judge : (n : ℕ) → Judges room_rules_heading (room_rule_line (among n)) 4 (λ _. n)
room_rules_judge n =
    record { few = refl; header = λ _ _. refl; line = λ _ _ _. refl; more = λ _. refl }

weightings_judge : (n : ℕ) → Judges weightings_heading (weighting_line (among n)) 5 (λ _. n)
weightings_judge n =
    record { few = refl; header = λ _ _. refl; line = λ _ _ _. refl; more = λ _. refl }

-- after the sixth section comes a fault, or nothing
none_after : {A : Type 0} (end n : ℕ) (lines : List Located) (x : A) → AtHeader lines →
    first_from end (at_header 6 n) lines
    ≡ fault_or (no_more lines >>= λ _. Ok x) (λ _. None)
none_after end n [] x at = refl
none_after end n (line ∷ lines) x at = rw at refl

-- the later sections have the fault of their reading
later_fault : (end : ℕ) (exams : List ExamLine) (lines : List Located) → AtHeader lines →
    first_from end (at_header 1 (length exams)) lines
    ≡ fault_or (later_sections end exams lines) (λ _. None)
later_fault end exams lines at =
    let n = length exams in
    section_step _ _ 1 _ (periods_judge n) end lines at _ _ (λ periods at1.
    section_step _ _ 2 _ (rooms_judge n) end periods.1 at1 _ _ (λ rooms at2.
    section_step _ _ 3 _ (period_rules_judge n) end rooms.1 at2 _ _ (λ on_periods at3.
    section_step _ _ 4 _ (room_rules_judge n) end on_periods.1 at3 _ _ (λ on_rooms at4.
    section_step _ _ 5 _ (weightings_judge n) end on_rooms.1 at4 _ _ (λ weighed at5.
    none_after end n weighed.1 _ at5)))))

-- the section of exams has the fault of its reading, or else that of the rest
exams_first : (end : ℕ) (lines : List Located) →
    first_from end at_start lines
    ≡ fault_or (section_in exams_heading exam_line end lines) (λ got.
    first_from end (at_header 1 (length got.0)) got.1)
exams_first end [] = refl
exams_first end (line ∷ lines) = elim (cases_Bool (is_header line.text)) [
  | inl e ↦ section_first _ _ 0 _ exams_judge end (line ∷ lines) e
  | inr e ↦ rw e refl
]

-- the lines of an instance have the fault of their reading
lines_fault : (end : ℕ) (lines : List Located) →
    first_from end at_start lines
    ≡ fault_or {A = Session × Enrolled}
    (section_in exams_heading exam_line end lines >>= λ exams.
    later_sections end exams.0 exams.1 >>= λ said.
    Ok (session_of said, enrolled_of said)) (λ _. None)
lines_fault end lines =
    exams_first end lines
    ∙ first_step (section_in exams_heading exam_line end lines) _ _ _ (λ exams is.
    later_fault end exams.0 exams.1
    (section_is exams_heading exam_line end lines exams.0 exams.1 is).up_to
    ∙ first_step (later_sections end exams.0 exams.1) _ _ _ (λ said is. refl))

-- a file that is too long has that fault, and any other file that of its lines
within_first : {A : Type 0} (within : Bool) (later : Option FileFault) (r : Result A FileFault) →
    later ≡ fault_or r (λ _. None) →
    (if within then later else Some (record { line = 0; what = TooLong }))
    ≡ fault_of (at_line 0 (unless within TooLong) >>= λ _. r)
within_first true later r same = same ∙ fault_only r
within_first false later r same = refl

-- the first fault of an instance file is that of its reading
pub instance_fault : (b : List ℕ) → first_fault b ≡ fault_of (instance_in b)
instance_fault b =
    within_first (nat_le (length b) 4194304) _ _ (lines_fault (line_count b + 1) (lines_of b))

-- the fault of the reading of an instance is the first fault of the file
pub first_of_instance : (b : List ℕ) (f : FileFault) → instance_in b ≡ Err f →
    first_fault b ≡ Some f
first_of_instance b f e = instance_fault b ∙ ap fault_of e

-- a file that is read has no fault
pub no_fault_of_instance : (b : List ℕ) (r : Session × Enrolled) → instance_in b ≡ Ok r →
    first_fault b ≡ None
no_fault_of_instance b r e = instance_fault b ∙ ap fault_of e

-- a place is read only if there is an exam for it
place_has_exam : (counts : Counts) (before : List Place) (fields : List (List ℕ)) (p : Place) →
    place_line counts before fields ≡ Ok p → length before < counts.exams
place_has_exam counts before fields p e = grind (arith, common_steps, bind_ok, ltb-true, unless_ok)

-- after the last place, others are missing, or none
none_missing : (places exams end : ℕ) (x : Placing) → places ≤ exams →
    (if nat_lt places exams then Some (record { line = end; what = CountMismatch }) else None)
    ≡ fault_or (at_line end (unless (places == exams) CountMismatch) >>= λ _. Ok x) (λ _. None)
none_missing places exams end x le = elim (cases_Bool (nat_lt places exams)) [
  | inl e ↦ rw (e, ne_eqb places exams (λ same. omega (arith, ltb-true places exams e))) refl
  | inr e ↦ rw (e, eq-eqb places exams (omega (arith, ltb-false places exams e))) refl
]

-- the lines of a solution have the fault of their reading, or else that of their number
places_first : (counts : Counts) (end : ℕ) (before : List Located) (places : List Place)
    (lines : List Located) → items_of (place_line counts) [] before ≡ Ok places →
    first_place_fault counts end before lines
    ≡ fault_or (items_of (place_line counts) places lines) (λ all.
    if nat_lt (length all) counts.exams
    then Some (record { line = end; what = CountMismatch }) else None)
places_first counts end before places [] is =
    rw (sym (items_length (place_line counts) before places is)) refl
places_first counts end before places (line ∷ lines) is =
    rw is
    (first_line line.line (place_line counts places (fields_of line.text)) _ _ _ (λ p ok.
    places_first counts end (before ++ line ∷ []) (places ++ p ∷ []) lines
    (items_push (place_line counts) [] places before line p is ok)))

-- the lines of a solution have the fault of their reading
places_fault : (counts : Counts) (end : ℕ) (lines : List Located) →
    first_place_fault counts end [] lines
    ≡ fault_or (items_of (place_line counts) [] lines >>= λ all.
    at_line end (unless (length all == counts.exams) CountMismatch) >>= λ _.
    Ok (map Some all)) (λ _. None)
places_fault counts end lines =
    places_first counts end [] [] lines refl
    ∙ first_step (items_of (place_line counts) [] lines) _ _ _ (λ all is.
    none_missing (length all) counts.exams end (map Some all)
    (items_within (place_line counts) counts.exams (place_has_exam counts) lines all is))

-- the first fault of a solution file is that of its reading
pub solution_fault : (I : Session) (b : List ℕ) →
    first_solution_fault I b ≡ fault_of (solution_in I b)
solution_fault I b = grind (arith, common_steps, places_fault, within_first)

-- the fault of the reading of a solution is the first fault of the file
pub first_of_solution : (I : Session) (b : List ℕ) (f : FileFault) → solution_in I b ≡ Err f →
    first_solution_fault I b ≡ Some f
first_of_solution I b f e = solution_fault I b ∙ ap fault_of e

-- a file that is read has no fault
pub no_fault_of_solution : (I : Session) (b : List ℕ) (T : Placing) → solution_in I b ≡ Ok T →
    first_solution_fault I b ≡ None
no_fault_of_solution I b T e = solution_fault I b ∙ ap fault_of e

module _ {X : Type 0} (view : X → Session × Enrolled) (b : List ℕ) where
  -- a refusal of an instance for another reason than memory is the first fault of the file
  pub instance_first : (r : Result X FileFault) → AnswersReading view r (instance_in b) →
      IfErr r (λ f. f.what ≢ NoMemory → first_fault b ≡ Some f)
  instance_first (Ok x) is = tt
  instance_first (Err f) is = λ other. first_of_instance b f (is other)

  -- a file with a reading has no fault
  pub instance_faultless : (r : Result X FileFault) → AnswersReading view r (instance_in b) →
      IfOk r (λ _. first_fault b ≡ None)
  instance_faultless (Ok x) is = no_fault_of_instance b (view x) is
  instance_faultless (Err f) is = tt

module _ {X : Type 0} (view : X → Placing) (I : Session) (b : List ℕ) where
  -- a refusal of a solution for another reason than memory is the first fault of the file
  pub solution_first : (r : Result X FileFault) → AnswersReading view r (solution_in I b) →
      IfErr r (λ f. f.what ≢ NoMemory → first_solution_fault I b ≡ Some f)
  solution_first (Ok x) is = tt
  solution_first (Err f) is = λ other. first_of_solution I b f (is other)

  -- a file with a reading has no fault
  pub solution_faultless : (r : Result X FileFault) → AnswersReading view r (solution_in I b) →
      IfOk r (λ _. first_solution_fault I b ≡ None)
  solution_faultless (Ok x) is = no_fault_of_solution I b (view x) is
  solution_faultless (Err f) is = tt
