-- What the tables hold of a candidate.
use Rattle.std.specs.Prelude.{◌≡◌, ℕ, List, [], map, Some, None}
use Rattle.exam_model.specs.Changes.{exams_sat}
use Rattle.exam_publish.specs.Changed.{rows_of}
use Rattle.exam_score.specs.Penalty.{PersonalPenalty}
use Rattle.exam_terms.specs.declared.place.Place.{Place}
use Rattle.office_tables.specs.declared.tables.enrol.EnrolRow.{EnrolRow}
use Rattle.office_tables.specs.declared.tables.placed.PlacedRow.{PlacedRow}
use Rattle.office_tables.specs.declared.tables.seat.SeatRow.{SeatRow}
use Rattle.office_tables.specs.declared.tables.share_student.StudentShareRow.{StudentShareRow}
use Rattle.office_model.specs.Office.{OfficeState}
use Rattle.office_model.specs.Publishing.{publication_rows}
use Rattle.office_model.specs.ViewRows.{places_in}
use Rattle.office_records.specs.Publications.{stored_seat}
use Rattle.office_records.specs.Memory.{published_in}

-- the exams in which a candidate is enrolled, ascending
abbrev pub exams_in : ℕ → OfficeState → List ℕ
exams_in c None = []
exams_in c (Some r) = exams_sat r.enrolments c

-- the row of a candidate's enrolment in an exam
abbrev pub candidate_enrol_row : ℕ → ℕ → EnrolRow
candidate_enrol_row c e = record { student = c; exam = e }

-- an exam with its place
abbrev pub place_in_row : PlacedRow → ℕ × Place
place_in_row row = (row.exam, record { period = row.period; room = row.room })

-- the share in a row
abbrev pub share_in_row : StudentShareRow → PersonalPenalty
share_in_row row = record {
  row = row.in_row;
  day = row.in_day;
  spread = row.spread;
  night = row.night;
}

-- the share of a candidate without a row: nothing
abbrev pub no_share : PersonalPenalty
no_share = record { row = 0; day = 0; spread = 0; night = 0 }

-- a candidate's enrolments, the published places of these exams, and the candidate's seats
pub record AreCandidateRows (office : OfficeState) (c : ℕ) (enrols : List EnrolRow)
    (places : List PlacedRow) (seats : List SeatRow) : Type 0 where
  pub of_enrols : map (λ row. row.exam) enrols ≡ exams_in c office
  pub of_places : map place_in_row places ≡ places_in (published_in office) (exams_in c office)
  pub of_seats : seats ≡ map stored_seat (rows_of c (publication_rows (published_in office)))
