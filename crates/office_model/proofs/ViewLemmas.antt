-- A candidate's rows, made from the places of their exams and their seat rows.
use Rattle.std.specs.List.{AllByRecursion, list_any}
use Rattle.std.proofs.Common.{◌≡◌, ℕ, Bool, true, ◌||◌, eqb, List, [], ◌∷◌, ◌++◌, map, Option, Some, None, refl, sym, ◌∙◌, ap, eqb-true, arith, eq-eqb}
use Rattle.std.proofs.lemmas.List.Elements.{recursion_from_All}
use Rattle.std.proofs.lemmas.List.Folds.{list_any-append}
use Rattle.exam_lists.proofs.Tests.{any_map}
use Rattle.exam_terms.specs.declared.place.Place.{Place}
use Rattle.exam_model.specs.Instance.{Session}
use Rattle.exam_publish.specs.Rows.{row_place}
use Rattle.exam_publish.specs.declared.seat_row.SeatRow.{SeatRow}
use Rattle.exam_publish.proofs.ListLemmas.{has_ascending}
use Rattle.office_model.specs.Office.{Publication}
use Rattle.office_model.specs.ViewRows.{AreOfPublication, place_in, place_of_seat, places_in, seat_in, view_row}
use Rattle.office_model.specs.Shown.{shown_exam, shown_exams, shown_from}
use Rattle.office_model.specs.Views.{candidate_exams, published_place, view_from}

-- ---- one exam's place

module _ (published : Option Publication) where
  -- an exam that isn't published is not found
  none_found : (e : ℕ) → published_place published e ≡ None → (es : List ℕ)
      → place_in (places_in published es) e ≡ None
  none_found e none [] = refl
  none_found e none (x ∷ es) = grind (arith, none_found e none es, eqb-true)

  -- an exam of the list is found with its place
  found : (e : ℕ) (es : List ℕ) → list_any (λ x. eqb x e) es ≡ true
      → place_in (places_in published es) e ≡ published_place published e
  found e [] has = cc
  found e (x ∷ es) has = grind (arith, found e es, eqb-true, none_found)

  -- the published place of one of the candidate's exams
  placed : (enrolled : List ℕ) (seats : List SeatRow)
      → AllByRecursion (λ row. published_place published row.exam ≡ Some (row_place row)) seats
      → (e : ℕ)
      → (list_any (λ x. eqb x e) enrolled || list_any (λ row. eqb row.exam e) seats) ≡ true
      → place_of_seat (seat_in seats e) (place_in (places_in published enrolled) e)
      ≡ published_place published e
  placed enrolled [] at e has = grind (arith, found)
  placed enrolled (row ∷ seats) at e has = grind (arith, placed enrolled seats at.1 e, eqb-true)

-- ---- all exams of the candidate

module _ (I : Session) (published : Option Publication) (enrolled : List ℕ)
    (places : List (ℕ × Place)) (seats : List SeatRow)
    (are : AreOfPublication published enrolled places seats) where
  row_is : (e : ℕ)
      → (list_any (λ x. eqb x e) enrolled || list_any (λ row. eqb row.exam e) seats) ≡ true
      → view_row I.periods enrolled places seats e
      ≡ shown_exam (view_from I enrolled published seats) e (published_place published e)
  row_is e has = grind (arith, placed, recursion_from_All)

  rows_are : (es : List ℕ)
      → ((e : ℕ) → list_any (λ x. eqb x e) es ≡ true
      → (list_any (λ x. eqb x e) enrolled || list_any (λ row. eqb row.exam e) seats) ≡ true)
      → map (view_row I.periods enrolled places seats) es
      ≡ shown_from (view_from I enrolled published seats) es (map (published_place published) es)
  rows_are [] within = refl
  rows_are (x ∷ es) within =
      cc (row_is x (within x here), rows_are es (λ e has. within e (there e has)))
    where
      here : list_any (λ y. eqb y x) (x ∷ es) ≡ true
      here = ap (λ b. b || list_any (λ y. eqb y x) es) (eq-eqb x x refl)

      there : (e : ℕ) → list_any (λ y. eqb y e) es ≡ true → list_any (λ y. eqb y e) (x ∷ es) ≡ true
      there e has = grind (arith)

  -- the rows of the candidate's exams are those in their view
  pub rows_shown : map (view_row I.periods enrolled places seats) (candidate_exams enrolled seats)
      ≡ shown_exams (view_from I enrolled published seats)
  rows_shown = rows_are (candidate_exams enrolled seats) (λ e has.
      sym (ap (λ b. list_any (λ x. eqb x e) enrolled || b)
      (any_map (λ x. eqb x e) (λ row. row.exam) seats))
      ∙ sym (list_any-append (λ x. eqb x e) enrolled (map (λ row. row.exam) seats))
      ∙ sym (has_ascending (enrolled ++ map (λ row. row.exam) seats) e) ∙ has)
