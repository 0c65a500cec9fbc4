-- The places of a publication, row by row, and as those of a draft.
use Rattle.std.proofs.lemmas.Grind.{common_steps}
use Rattle.std.proofs.Common.{◌≡◌, ℕ, ◌+◌, ◌<◌, List, [], ◌∷◌, ◌++◌, length, map, option_map, take, get_or, Option, Some, None, refl, sym, ◌∙◌, ap, subst, arith}
use Rattle.std.specs.List.{cons_option}
use Rattle.std.specs.Prelude.{IsPermutation}
use Rattle.std.proofs.lemmas.List.Sorted.{IsPermutation-map}
use Rattle.exam_lists.proofs.Permutations.{IsPermutation-unmap}
use Rattle.exam_model.specs.Instance.{Session}
use Rattle.exam_model.specs.Timetable.{Placing}
use Rattle.exam_terms.specs.declared.place.Place.{Place}
use Rattle.office_tables.specs.declared.tables.placed.PlacedRow.{PlacedRow}
use Rattle.office_tables.specs.declared.tables.slot.SlotRow.{SlotRow}
use Rattle.office_records.specs.Found.{AreSlots}
use Rattle.office_records.specs.Publications.{placed_from, placed_row}
use Rattle.office_records.specs.FoundPublications.{ArePlaces, placed_slot}
use Rattle.office_records.specs.TableRows.{slots_at, slots_from}
use Rattle.exam_lists.proofs.Numbered.{AreRowsOf, rows_next}
use Rattle.office_records.proofs.SlotLemmas.{same_timetable}

-- ---- as places of draft 0

abbrev place_back : SlotRow → PlacedRow
place_back row = record { exam = row.exam; period = row.period; room = row.room }

pub placed_slots : (e : ℕ) (T : Placing) → map placed_slot (placed_from e T) ≡ slots_from 0 e T
placed_slots e [] = refl
placed_slots e (None ∷ T) = placed_slots (e + 1) T
placed_slots e (Some at ∷ T) =
    ap (λ l. placed_slot (placed_row e at) ∷ l) (placed_slots (e + 1) T)

-- all are of draft 0
all_own : (places : List PlacedRow) → slots_at 0 (map placed_slot places) ≡ map placed_slot places
all_own [] = refl
all_own (row ∷ places) = ap (λ l. placed_slot row ∷ l) (all_own places)

module _ (I : Session) (found : List PlacedRow) (T : Placing) where
  pub slots_from_places : ArePlaces I found T → AreSlots I 0 (map placed_slot found) T
  slots_from_places are = record {
    exams = are.exams;
    places = are.places;
    rows = subst (λ l. IsPermutation l (slots_from 0 0 T)) (sym (all_own found))
        (subst (IsPermutation (map placed_slot found)) (placed_slots 0 T)
        (IsPermutation-map placed_slot _ _ are.rows));
  }

  pub places_from_slots : AreSlots I 0 (map placed_slot found) T → ArePlaces I found T
  places_from_slots are = record {
    exams = are.exams;
    places = are.places;
    rows = IsPermutation-unmap placed_slot place_back (λ row. refl) found (placed_from 0 T)
        (subst (IsPermutation (map placed_slot found)) (sym (placed_slots 0 T))
        (subst (λ l. IsPermutation l (slots_from 0 0 T)) (all_own found) are.rows));
  }

-- rows are the places of one timetable at most
pub same_places : (I : Session) (found : List PlacedRow) (T U : Placing) → ArePlaces I found T
    → ArePlaces I found U → T ≡ U
same_places I found T U t u =
    same_timetable I 0 (map placed_slot found) T U (slots_from_places I found T t)
    (slots_from_places I found U u)

-- ---- row by row

placed_are : AreRowsOf placed_from (λ e o. option_map (placed_row e) o)
placed_are = grind (arith, common_steps)

-- the next exam has this place or none
pub placed_next : (e : ℕ) (T : Placing) → e < length T → (o : Option Place) → get_or T e None ≡ o
    → placed_from 0 (take (e + 1) T)
    ≡ placed_from 0 (take e T) ++ cons_option (option_map (placed_row e) o) []
placed_next e T within o is =
    rows_next placed_are T e None within
    ∙ ap (λ o. placed_from 0 (take e T) ++ cons_option (option_map (placed_row e) o) []) is
