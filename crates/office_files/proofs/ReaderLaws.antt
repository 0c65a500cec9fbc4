-- The results of the two readers, by the relations of text and item.
use Rattle.std.proofs.Common.{◌≡◌, ◌≢◌, ℕ, ◌+◌, ◌≤◌, ◌==◌, List, [], length, map, Some, rules}
use Rattle.std.proofs.Common.{Result, Ok, Err, IfOk, IfErr, sym, ◌∙◌, refl, subst, arith}
use Rattle.std.proofs.lemmas.List.{length-map}
use Rattle.std.proofs.lemmas.List.Elements.{All-map, All-weaker}
use Rattle.std.specs.Prelude.{All}
use Rattle.exam_lists.proofs.Results.{ok_same}
use Rattle.exam_model.specs.Enrolments.{Enrolled}
use Rattle.exam_model.specs.Fits.{PlaceExists}
use Rattle.exam_model.specs.Instance.{Session}
use Rattle.exam_terms.specs.Refusing.{unless}
use Rattle.exam_model.specs.Timetable.{Placing}
use Rattle.office_files.specs.InstanceText.{InstanceText, instance_in}
use Rattle.office_files.specs.ItemLines.{place_line}
use Rattle.office_files.specs.Lines.{lines_of, line_count}
use Rattle.office_files.specs.Reading.{AnswersReading, at_line, items_of}
use Rattle.office_files.specs.SolutionText.{SolutionText, solution_in, timetable_in}
use Rattle.office_files.specs.declared.counts.Counts.{Counts}
use Rattle.office_files.specs.declared.fault.FaultKind.TheVariants.{NoMemory, CountMismatch}
use Rattle.office_files.specs.declared.fault.FileFault.{FileFault}
use Rattle.office_files.proofs.InstanceLaws.{read_is_text, text_is_read, one_reading}
use Rattle.office_files.proofs.ItemLaws.{PlaceExists as IsAmong}
use Rattle.office_files.proofs.ReadingLaws.{bind_ok}
use Rattle.office_files.proofs.SolutionLaws.{solution_is_text, text_is_solution, places_exist}

module _ {X : Type 0} (view : X → Session × Enrolled) (b : List ℕ) where
  -- the text describes the result
  pub instance_reading : (r : Result X FileFault) → AnswersReading view r (instance_in b)
      → IfOk r (λ x. InstanceText b (view x).0 (view x).1)
  instance_reading (Ok x) is = read_is_text b (view x).0 (view x).1 is
  instance_reading (Err f) is = tt

  -- a text that is refused for another reason than memory is invalid
  pub instance_only : (r : Result X FileFault) → AnswersReading view r (instance_in b)
      → IfErr r (λ f. f.what ≢ NoMemory → (I : Session) (E : Enrolled) → InstanceText b I E → ⊥)
  instance_only (Ok x) is = tt
  instance_only (Err f) is = λ other I E text.
      let same = sym (text_is_read b I E text) ∙ is other in cc

  -- and nothing else
  pub instance_one : (r : Result X FileFault) → AnswersReading view r (instance_in b)
      → IfOk r (λ x. (I : Session) (E : Enrolled) → InstanceText b I E
      → (I ≡ (view x).0) × (E ≡ (view x).1))
  instance_one (Ok x) is =
      λ I E text. one_reading b I (view x).0 E (view x).1 text
      (read_is_text b (view x).0 (view x).1 is)
  instance_one (Err f) is = tt

  -- as many exams as the instance has
  pub instance_fits : (r : Result X FileFault) → AnswersReading view r (instance_in b)
      → IfOk r (λ x. length (view x).1 ≡ length (view x).0.exams)
  instance_fits (Ok x) is = search (rules, length-map, read_is_text)
  instance_fits (Err f) is = tt

module _ {X : Type 0} (view : X → Placing) (I : Session) (b : List ℕ) where
  -- the text describes the result
  pub solution_reading : (r : Result X FileFault) → AnswersReading view r (solution_in I b)
      → IfOk r (λ x. SolutionText b I (view x))
  solution_reading (Ok x) is = solution_is_text I b (view x) is
  solution_reading (Err f) is = tt

  -- a text that is refused for another reason than memory is invalid
  pub solution_only : (r : Result X FileFault) → AnswersReading view r (solution_in I b)
      → IfErr r (λ f. f.what ≢ NoMemory → (T : Placing) → SolutionText b I T → ⊥)
  solution_only (Ok x) is = tt
  solution_only (Err f) is = λ other T text.
      let same = sym (text_is_solution I b T text) ∙ is other in cc

  -- and nothing else
  pub solution_one : (r : Result X FileFault) → AnswersReading view r (solution_in I b)
      → IfOk r (λ x. (T : Placing) → SolutionText b I T → T ≡ view x)
  solution_one (Ok x) is = λ T text.
      let same = sym (text_is_solution I b T text) ∙ is in cc
  solution_one (Err f) is = tt

  -- every place that is answered exists
  pub solution_places : (counts : Counts)
      → counts.periods ≡ length I.periods → counts.rooms ≡ length I.rooms
      → 1 ≤ length I.periods → 1 ≤ length I.rooms
      → (r : Result X FileFault) → AnswersReading view r (timetable_in counts b)
      → IfOk r (λ x. All (PlaceExists I) (view x))
  solution_places counts periods rooms some_period some_room (Ok x) is =
      let read = bind_ok (items_of (place_line counts) [] (lines_of b)) _ (view x) is in
      let all = unless (length read.0 == counts.exams) CountMismatch in
      let whole = bind_ok (at_line (line_count b + 1) all) _ (view x) read.2 in
      let same : map Some read.0 ≡ view x =
      sym (ok_same _ (view x) (map Some read.0) refl (sym whole.2)) in
      let exist = places_exist counts (lines_of b) read.0 (omega arith) (omega arith) read.1 in
      subst (All (PlaceExists I)) same (All-map (PlaceExists I) Some read.0
      (All-weaker (IsAmong counts) (λ p. PlaceExists I (Some p))
      (λ p within. (omega (arith, within.0), omega (arith, within.1))) read.0 exist))
  solution_places counts periods rooms some_period some_room (Err f) is = tt
