-- A solution file that was read is the text of the timetable, and each such text is read.
use Rattle.std.proofs.lemmas.Grind.{common_steps}
use Rattle.std.proofs.Common.{◌≡◌, ℕ, ◌+◌, ◌≤◌, List, [], length, map, Some, Ok, refl, sym, arith, rules}
use Rattle.std.specs.Prelude.{All, nat_le, ◌==◌}
use Rattle.std.proofs.lemmas.Bool.{leb-true, le-leb, eqb-true, eq-eqb}
use Rattle.exam_lists.proofs.Results.{ok_same}
use Rattle.exam_terms.specs.Refusing.{unless}
use Rattle.exam_model.specs.Instance.{Session}
use Rattle.exam_model.specs.Timetable.{Placing}
use Rattle.exam_terms.specs.declared.place.Place.{Place}
use Rattle.office_files.specs.ItemLines.{place_line}
use Rattle.office_files.specs.Lines.{Located, lines_of, line_count}
use Rattle.office_files.specs.Reading.{at_line, items_of}
use Rattle.office_files.specs.SolutionText.{counts_in, SolutionText, solution_in}
use Rattle.office_files.specs.declared.counts.Counts.{Counts}
use Rattle.office_files.specs.declared.fault.FaultKind.TheVariants.{TooLong, CountMismatch}
use Rattle.office_files.proofs.ItemLaws.{PlaceExists, place_within}
use Rattle.office_files.proofs.ReadingLaws.{bind_ok, ok_bind, at_line_ok, ok_at_line, unless_ok, ok_unless, items_spelled, spelled_items, items_all}

-- the text describes the result of its reading
pub solution_is_text : (I : Session) (b : List ℕ) (T : Placing) → solution_in I b ≡ Ok T →
    SolutionText b I T
solution_is_text I b T e =
    let counts = counts_in I in
    let short = nat_le (length b) 1048576 in
    let fits = bind_ok (at_line 0 (unless short TooLong)) _ T e in
    let places = bind_ok (items_of (place_line counts) [] (lines_of b)) _ T fits.2 in
    let whole = length places.0 == length I.exams in
    let all = bind_ok (at_line (line_count b + 1) (unless whole CountMismatch)) _ T places.2 in
    record {
      within = leb-true (length b) 1048576
          (unless_ok short TooLong fits.0 (at_line_ok 0 (unless short TooLong) fits.0 fits.1));
      places = places.0;
      spelled = items_spelled (place_line counts) (lines_of b) places.0 places.1;
      complete = eqb-true (length places.0) (length I.exams)
          (unless_ok whole CountMismatch all.0
          (at_line_ok (line_count b + 1) (unless whole CountMismatch) all.0 all.1));
      timetable = ok_same _ T (map Some places.0) refl (sym all.2);
    }

-- a timetable that a text describes is read from it
pub text_is_solution : (I : Session) (b : List ℕ) (T : Placing) → SolutionText b I T →
    solution_in I b ≡ Ok T
text_is_solution I b T t =
    grind (arith, common_steps, eq-eqb, le-leb, ok_at_line, ok_bind, ok_unless, spelled_items)

-- the places that were read exist
pub places_exist : (counts : Counts) (lines : List Located) (places : List Place) →
    1 ≤ counts.periods → 1 ≤ counts.rooms →
    items_of (place_line counts) [] lines ≡ Ok places → All (PlaceExists counts) places
places_exist counts lines places periods rooms e =
    search (rules, PlaceExists, items_all, place_within)
