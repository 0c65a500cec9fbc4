-- When rows that were found are those of a publication.
use Rattle.std.specs.Prelude.{◌≡◌, Bool, ◌&&◌, ◌==◌, List, length, All, Option, option_map, IfSome, IsPermutation, Vec}
use Rattle.std.specs.declared.alloc.Global.{Global}
use Rattle.exam_model.specs.Fits.{PlaceExists}
use Rattle.exam_model.specs.Instance.{Session}
use Rattle.exam_model.specs.Timetable.{Placing}
use Rattle.exam_publish.specs.Rows.{AreNumbered, ArePublishedRows, IsAtExam}
use Rattle.exam_publish.specs.Seats.{AreSeated, HasSeat}
use Rattle.exam_publish.specs.declared.seat_row.SeatRow as publish
use Rattle.office_tables.specs.declared.tables.enrol.EnrolRow.{EnrolRow}
use Rattle.office_tables.specs.declared.tables.placed.PlacedRow.{PlacedRow}
use Rattle.office_tables.specs.declared.tables.slot.SlotRow.{SlotRow}
use Rattle.office_model.specs.Office.{Publication, IsPublication}
use Rattle.office_records.specs.Publications.{placed_from}

-- ---- a whole one

-- a timetable with its seats
abbrev pub publication : Placing → List publish.SeatRow → Publication
publication T rows = record { timetable = T; rows = rows }

-- the rows found as a publication
abbrev pub publication_from : Option (Placing × Vec publish.SeatRow Global) → Option Publication
publication_from found = option_map (λ p. publication p.0 p.1.items) found

-- each exam has a place, and each row is at its exam's place and has its own seat in the room; this
-- says nothing of the rules
pub record HasPlacesAndSeats (I : Session) (p : Publication) : Type 0 where
  pub rows : ArePublishedRows I p.rows p.timetable
  pub seated : AreSeated I p.rows
  pub numbered : AreNumbered p.rows

-- there is no publication, or it has places and seats
abbrev pub AreFound : Session → Option Publication → Type 0
AreFound I published = IfSome published (HasPlacesAndSeats I)

-- there is no publication, or it is valid
abbrev pub ArePublished : Session → Option Publication → Type 0
ArePublished I published = IfSome published (IsPublication I)

-- ---- parts of one

-- a published place as a row of draft 0
abbrev pub placed_slot : PlacedRow → SlotRow
placed_slot row = record { draft = 0; exam = row.exam; period = row.period; room = row.room }

-- these rows are the places of a timetable of the session's exams
pub record ArePlaces (I : Session) (found : List PlacedRow) (T : Placing) : Type 0 where
  pub exams : length T ≡ length I.exams
  pub places : All (PlaceExists I) T
  pub rows : IsPermutation found (placed_from 0 T)

-- the row is at its exam's place, and has a seat of the room
pub record IsSeatedRow (I : Session) (T : Placing) (row : publish.SeatRow) : Type 0 where
  pub at_exam : IsAtExam T row
  pub seat : HasSeat I row

-- whether two rows have the same seat in the same period
abbrev pub is_same_seat : publish.SeatRow → publish.SeatRow → Bool
is_same_seat row other =
    (row.period == other.period) && ((row.room == other.room) && (row.seat == other.seat))

-- the enrolment of a seat
abbrev pub seat_pair : publish.SeatRow → EnrolRow
seat_pair row = record { student = row.student; exam = row.exam }
