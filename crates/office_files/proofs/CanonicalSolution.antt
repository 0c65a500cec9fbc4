-- The canonical text of a complete timetable is a text of it.
use Rattle.std.proofs.Common.{◌≡◌, ℕ, suc, ◌+◌, ◌-◌, ◌<◌, ◌≤◌, List, [], ◌∷◌, ◌++◌, length}
use Rattle.std.proofs.Common.{Some, None, Ok, refl, sym, ap, ◌∙◌, arith, append-nil, length-append}
use Rattle.std.specs.Prelude.{map, decimal, All, IsSome}
use Rattle.std.specs.List.{flat_map, AllByRecursion}
use mathlib.Core.Bool.{true≢false}
use Rattle.std.proofs.lemmas.Bool.{lt-ltb}
use Rattle.std.proofs.lemmas.List.{length-map}
use Rattle.std.proofs.lemmas.List.Elements.{All-head, All-tail}
use Rattle.std.proofs.lemmas.List.Folds.{flat_map-map}
use Rattle.exam_lists.proofs.Maps.{length_flat_map-le}
use Rattle.exam_model.specs.Fits.{PlaceExists}
use Rattle.exam_model.specs.Instance.{Session}
use Rattle.exam_model.specs.Timetable.{Placing, place_of}
use Rattle.exam_terms.specs.declared.place.Place.{Place}
use Rattle.office_files.specs.CanonicalLines.{line_of}
use Rattle.office_files.specs.CanonicalSolution.{place_text, slot_text, canonical_solution}
use Rattle.office_files.specs.CanonicalSolution.{SuitsTimetable}
use Rattle.office_files.specs.ItemLines.{place_line}
use Rattle.office_files.specs.Lines.{lines_of}
use Rattle.office_files.specs.Reading.{items_of}
use Rattle.office_files.specs.SolutionText.{counts_in, SolutionText, solution_in}
use Rattle.office_files.specs.declared.counts.Counts.{Counts}
use Rattle.office_files.proofs.CanonicalLines.{IsLine, field_decimal, line_single, line_before, number_decimal, length_decimal, row_each, AreRead, read_each}
use Rattle.office_files.proofs.ReadingLaws.{items_spelled}
use Rattle.office_files.proofs.SolutionLaws.{text_is_solution}

-- the place's period and room are below these counts
record IsAmong (counts : Counts) (p : Place) : Type 0 where
  period : p.period < counts.periods
  room : p.room < counts.rooms

-- the places of a complete timetable
all_placed : (T : Placing) → ((e : ℕ) → e < length T → IsSome (place_of T e))
    → (places : List Place) × (T ≡ map Some places)
all_placed [] complete = ([], refl)
all_placed (None ∷ T) complete = absurd (true≢false (sym (complete 0 (omega arith))))
all_placed (Some p ∷ T) complete =
    let more = all_placed T (λ e lt. complete (suc e) (omega arith)) in
    (p ∷ more.0, ap (λ (os : Placing). Some p ∷ os) more.1)

all_among : (I : Session) (places : List Place) → All (PlaceExists I) (map Some places)
    → AllByRecursion (IsAmong (counts_in I)) places
all_among I [] all = tt
all_among I (p ∷ ps) all =
    let here : PlaceExists I (Some p) = All-head (PlaceExists I) (Some p) (map Some ps) all in (
      record { period = here.0; room = here.1 },
      all_among I ps (All-tail (PlaceExists I) (Some p) (map Some ps) all),
    )

abbrev fields : Place → List (List ℕ)
fields p = decimal p.period ∷ decimal p.room ∷ []

module _ (counts : Counts) (periods : counts.periods ≤ 200) (rooms : counts.rooms ≤ 200) where
  place_is_line : (p : Place) → IsAmong counts p → IsLine (place_text p) (fields p)
  place_is_line p is =
      line_before (decimal p.period) (decimal p.room) (decimal p.room ∷ [])
      (field_decimal p.period (omega (arith, is.period)))
      (line_single (decimal p.room) (field_decimal p.room (omega (arith, is.room))))

  are_lines : (ps : List Place) → AllByRecursion (IsAmong counts) ps
      → AllByRecursion (λ p. IsLine (place_text p) (fields p)) ps
  are_lines [] all = tt
  are_lines (p ∷ ps) all = (place_is_line p all.0, are_lines ps all.1)

  are_read : (done ps : List Place) → length done + length ps ≤ counts.exams
      → AllByRecursion (IsAmong counts) ps → AreRead place_text fields (place_line counts) done ps
  are_read done [] le all = tt
  are_read done (p ∷ ps) le all = (
    rw (
      lt-ltb (length done) counts.exams (omega arith),
      number_decimal (counts.periods - 1) p.period (omega (arith, all.0.period)) (omega arith),
      number_decimal (counts.rooms - 1) p.room (omega (arith, all.0.room)) (omega arith),
    ) refl,
    are_read (done ++ p ∷ []) ps (omega (arith, length-append done (p ∷ []))) all.1,
  )

  line_short : (p : Place) → IsAmong counts p → length (line_of (place_text p)) ≤ 12
  line_short p is =
      let period = length_decimal 3 p.period (omega arith) (omega (arith, is.period))
      (omega (arith, is.period)) in
      let room = length_decimal 3 p.room (omega arith) (omega (arith, is.room))
      (omega (arith, is.room)) in
      let line = length-append (place_text p) (13 ∷ 10 ∷ []) in
      let both = length-append (decimal p.period) (44 ∷ 32 ∷ decimal p.room) in
      omega arith

  are_short : (ps : List Place) → AllByRecursion (IsAmong counts) ps
      → AllByRecursion (λ p. length (line_of (place_text p)) ≤ 12) ps
  are_short [] all = tt
  are_short (p ∷ ps) all = (line_short p all.0, are_short ps all.1)

-- the canonical text of places
text_of : (places : List Place)
    → canonical_solution (map Some places) ≡ flat_map (λ p. line_of (place_text p)) places
text_of places = flat_map-map slot_text Some places

-- the written text describes the timetable
pub solution_spelled : (I : Session) (T : Placing) → SuitsTimetable I T
    → ((e : ℕ) → e < length T → IsSome (place_of T e)) → SolutionText (canonical_solution T) I T
solution_spelled I T suits complete =
    let found = all_placed T complete in
    let places : List Place = found.0 in
    let T_is : T ≡ map Some places = found.1 in
    let counts = counts_in I in
    let counted = suits.instance.limits.counts in
    let all : AllByRecursion (IsAmong counts) places
    = all_among I places (rw T_is at suits.places) in
    let flat : List ℕ = flat_map (λ p. line_of (place_text p)) places in
    let text : canonical_solution T ≡ flat = ap canonical_solution T_is ∙ text_of places in
    let many : length places ≡ length I.exams
    = sym (length-map places Some) ∙ ap length (sym T_is) ∙ suits.exams in
    let lines = are_lines counts counted.1.1 counted.2.1 places all in
    let cut = row_each place_text fields places lines 1 0 [] in
    let rows_are : lines_of (canonical_solution T) ≡ cut.0
    = ap lines_of (text ∙ sym (append-nil flat)) ∙ cut.3 ∙ append-nil cut.0 in
    let read = read_each place_text fields (place_line counts) [] places cut.0 lines cut.4
    (are_read counts counted.1.1 counted.2.1 [] places (omega arith) all) in
    let short = length_flat_map-le (λ p. line_of (place_text p)) 12 places
    (are_short counts counted.1.1 counted.2.1 places all) in
    let size = ap length text in
    record {
      within = omega (arith, counted.0.1);
      places = places;
      spelled = items_spelled (place_line counts) (lines_of (canonical_solution T)) places
          (ap (items_of (place_line counts) []) rows_are ∙ read);
      complete = many;
      timetable = T_is;
    }

-- and is read as the same
pub solution_same : (I : Session) (T : Placing) → SuitsTimetable I T
    → ((e : ℕ) → e < length T → IsSome (place_of T e))
    → solution_in I (canonical_solution T) ≡ Ok T
solution_same I T suits complete =
    text_is_solution I (canonical_solution T) T (solution_spelled I T suits complete)
