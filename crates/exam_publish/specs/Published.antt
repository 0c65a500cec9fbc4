-- Seats that are rows of a publication.
use Rattle.std.specs.Prelude.{◌≡◌, List, map}
use Rattle.exam_model.specs.Enrolments.{Enrolled}
use Rattle.exam_model.specs.Instance.{Session}
use Rattle.exam_model.specs.Pairs.{pairs_of}
use Rattle.exam_model.specs.Timetable.{Placing}
use Rattle.exam_publish.specs.declared.seat_row.SeatRow.{SeatRow}
use Rattle.exam_publish.specs.Rows.{ArePublishedRows, row_pair}
use Rattle.exam_publish.specs.Seats.{AreSeated}

-- a row for each enrolment, at its exam's place, with a seat of the room that no other row has
pub record AreSeats (I : Session) (E : Enrolled) (T : Placing) (rows : List SeatRow) : Type 0 where
  pub pairs : map row_pair rows ≡ pairs_of E
  pub seated : AreSeated I rows
  pub published : ArePublishedRows I rows T
