-- All numbers shown are whole.
use Rattle.std.proofs.Common.{◌≡◌, ℕ, false, List, [], ◌∷◌, map, length, Option, Some, None, refl}
use Rattle.std.specs.List.{range_with_len}
use Rattle.serde_json.specs.View.{items_of}
use Rattle.serde_json.specs.Written.{has_float, items_have_float}
use Rattle.exam_terms.specs.declared.place.Place.{Place}
use Rattle.exam_model.specs.Timetable.{Placing, place_of}
use Rattle.exam_score.specs.Penalty.{PersonalPenalty}
use Rattle.office_model.specs.declared.views.ViewRow.{ViewRow}
use Rattle.office_model.specs.declared.views.ShownPlace.{ShownPlace}
use Rattle.office_replies.specs.CandidateViews as candidates
use Rattle.office_replies.specs.Views.{draft_data, exam_data}

exam_no_float : (e : ℕ) (at : Option Place) → has_float (exam_data e at) ≡ false
exam_no_float e None = refl
exam_no_float e (Some at) = refl

exams_no_float : (T : Placing) (exams : List ℕ)
    → items_have_float (items_of (map (λ e. exam_data e (place_of T e)) exams)) ≡ false
exams_no_float T [] = refl
exams_no_float T (e ∷ exams) = rw (exam_no_float e (place_of T e)) (exams_no_float T exams)

pub draft_no_float : (d : ℕ) (T : Placing) (penalty : ℕ)
    → has_float (draft_data d T penalty) ≡ false
draft_no_float d T penalty = rw (exams_no_float T (range_with_len 0 (length T))) refl

-- ---- of a candidate

pub row_no_float : (row : ViewRow) → has_float (candidates.exam_data row) ≡ false
row_no_float row = at row.at row.seat
  where
    at : (place : Option ShownPlace) (seat : Option ℕ)
        → has_float (candidates.exam_data (record row { at = place; seat = seat })) ≡ false
    at None None = refl
    at None (Some seat) = refl
    at (Some place) None = refl
    at (Some place) (Some seat) = refl

rows_no_float : (rows : List ViewRow)
    → items_have_float (items_of (map candidates.exam_data rows)) ≡ false
rows_no_float [] = refl
rows_no_float (row ∷ rows) = rw (row_no_float row) (rows_no_float rows)

pub candidate_no_float : (s : ℕ) (rows : List ViewRow) (penalty : PersonalPenalty)
    → has_float (candidates.candidate_data s rows penalty) ≡ false
candidate_no_float s rows penalty = rw (rows_no_float rows) refl
