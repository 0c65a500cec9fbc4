-- A candidate's part of the office.
use Rattle.std.specs.Prelude.{ℕ, List, [], ◌++◌, map, Option, Some, None}
use Rattle.exam_terms.specs.declared.place.Place.{Place}
use Rattle.exam_model.specs.Changes.{exams_sat}
use Rattle.exam_model.specs.Instance.{Session}
use Rattle.exam_model.specs.Timetable.{place_of}
use Rattle.exam_model.specs.declared.parts.Period.{Period}
use Rattle.exam_model.specs.declared.parts.Weights.{Weights}
use Rattle.exam_publish.specs.Changed.{sorted_numbers, rows_of}
use Rattle.exam_publish.specs.declared.seat_row.SeatRow.{SeatRow}
use Rattle.office_files.specs.Weights.{no_weights}
use Rattle.office_model.specs.Office.{OfficeState, Publication}
use Rattle.office_model.specs.Publishing.{publication_rows}

-- the candidate's live enrolments, the published places of their exams, their seat rows; the
-- periods and the weights
pub record View : Type 0 where
  pub enrolled : List ℕ
  pub places : List (Option Place)
  pub seats : List SeatRow
  pub periods : List Period
  pub weights : Weights

-- the exams of a candidate's enrolments and of their seats together, ascending
abbrev pub candidate_exams : List ℕ → List SeatRow → List ℕ
candidate_exams enrolled seats = sorted_numbers (enrolled ++ map (λ row. row.exam) seats)

-- the published place of an exam, if it has one
abbrev pub published_place : Option Publication → ℕ → Option Place
published_place None e = None
published_place (Some p) e = place_of p.timetable e

-- what a candidate may see, from their enrolments, this publication and their seats
abbrev pub view_from : Session → List ℕ → Option Publication → List SeatRow → View
view_from I enrolled published seats = record {
  enrolled = enrolled;
  places = map (published_place published) (candidate_exams enrolled seats);
  seats = seats;
  periods = I.periods;
  weights = I.weights;
}

-- the view of everybody if there is no session: it has no weights either
abbrev pub no_view : View
no_view = record { enrolled = []; places = []; seats = []; periods = []; weights = no_weights }

-- a candidate's view of the office: empty before a load
abbrev pub view_of : ℕ → OfficeState → View
view_of c None = no_view
view_of c (Some r) =
    view_from r.session (exams_sat r.enrolments c) r.published
    (rows_of c (publication_rows r.published))
