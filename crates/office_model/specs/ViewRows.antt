-- The sources of a candidate's rows: their exams, known places, and their seat rows.
use Rattle.std.specs.Prelude.{◌≡◌, ℕ, ◌==◌, List, All, Option, Some, None, option_map, option_and_then}
use Rattle.std.specs.List.{filter_map, find, list_any}
use Rattle.exam_terms.specs.declared.place.Place.{Place}
use Rattle.exam_model.specs.declared.parts.Period.{Period}
use Rattle.exam_publish.specs.Rows.{row_place}
use Rattle.exam_publish.specs.declared.seat_row.SeatRow.{SeatRow}
use Rattle.office_model.specs.Office.{Publication}
use Rattle.office_model.specs.Shown.{shown_place}
use Rattle.office_model.specs.Views.{published_place}
use Rattle.office_model.specs.declared.views.ViewRow.{ViewRow}

-- the published places of exams, each with its exam
abbrev pub places_in : Option Publication → List ℕ → List (ℕ × Place)
places_in published exams =
    filter_map (λ e. option_map (λ at. (e, at)) (published_place published e)) exams

-- the published places of the candidate's exams, and seat rows each at its exam's place
pub record AreOfPublication (published : Option Publication) (enrolled : List ℕ)
    (known : List (ℕ × Place)) (rows : List SeatRow) : Type 0 where
  pub places : known ≡ places_in published enrolled
  pub seats : All (λ row. published_place published row.exam ≡ Some (row_place row)) rows

-- the row of an exam among these, if there is one
abbrev pub seat_in : List SeatRow → ℕ → Option SeatRow
seat_in seats exam = find (λ row. row.exam == exam) seats

-- the place of an exam in this list, if it has one
abbrev pub place_in : List (ℕ × Place) → ℕ → Option Place
place_in places exam = option_map (λ found. found.1) (find (λ found. found.0 == exam) places)

-- the place of a seat; without a seat the known place
abbrev pub place_of_seat : Option SeatRow → Option Place → Option Place
place_of_seat None known = known
place_of_seat (Some row) known = Some (row_place row)

-- the row of an exam in the candidate's view
abbrev pub view_row : List Period → List ℕ → List (ℕ × Place) → List SeatRow → ℕ → ViewRow
view_row periods enrolled places seats exam = record {
  exam = exam;
  enrolled = list_any (λ e. e == exam) enrolled;
  at = option_and_then (shown_place periods)
      (place_of_seat (seat_in seats exam) (place_in places exam));
  seat = option_map (λ row. row.seat) (seat_in seats exam);
}
