-- The rows of a publication: its places and its seats.
use Rattle.std.specs.Prelude.{◌≡◌, ℕ, ◌+◌, Bool, List, [], ◌∷◌, map, Option, Some, None, is_some, IsPermutation}
use Rattle.exam_terms.specs.declared.place.Place.{Place}
use Rattle.exam_model.specs.Timetable.{Placing}
use Rattle.exam_publish.specs.declared.seat_row.SeatRow as publish
use Rattle.office_tables.specs.declared.tables.placed.PlacedRow.{PlacedRow}
use Rattle.office_tables.specs.declared.tables.seat.SeatRow.{SeatRow}
use Rattle.office_model.specs.Office.{Publication}
use Rattle.office_model.specs.Publishing.{publication_rows}

-- the row of an exam's published place
abbrev pub placed_row : ℕ → Place → PlacedRow
placed_row e at = record { exam = e; period = at.period; room = at.room }

-- the rows of the placed exams, from a number on
abbrev pub placed_from : ℕ → Placing → List PlacedRow
placed_from e [] = []
placed_from e (None ∷ T) = placed_from (e + 1) T
placed_from e (Some at ∷ T) = placed_row e at ∷ placed_from (e + 1) T

-- the rows of all published places, by exam
abbrev pub placed_rows : Option Publication → List PlacedRow
placed_rows None = []
placed_rows (Some p) = placed_from 0 p.timetable

-- a seat row as the tables have it
abbrev pub stored_seat : publish.SeatRow → SeatRow
stored_seat row = record {
  student = row.student;
  exam = row.exam;
  period = row.period;
  room = row.room;
  seat = row.seat;
}

-- these rows are the places and the seats of the publication
pub record RowsRepresentPublication (places : List PlacedRow) (seats : List SeatRow)
    (published : Option Publication) : Type 0 where
  pub placed : IsPermutation places (placed_rows published)
  pub seat : IsPermutation seats (map stored_seat (publication_rows published))

-- the same, with a flag that says whether there is a publication
pub record ArePublicationRows (mark : Bool) (places : List PlacedRow) (seats : List SeatRow)
    (published : Option Publication) : Type 0 where
  pub marked : mark ≡ is_some published
  pub represents : RowsRepresentPublication places seats published
