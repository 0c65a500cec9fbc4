-- Seats: an old seat is kept if its exam has the same place, and the other students get the seats
-- between the kept ones.
use Rattle.std.specs.Prelude.{◌≡◌, ◌≤◌, ℕ, ◌+◌, not, if◌then◌else◌, List, [], ◌∷◌, length, map, filter, Option, None, Some, All, AllPairs, unwrap_or, is_some, slice_get}
use Rattle.std.specs.List.{position_or_len, range_with_len}
use Rattle.exam_terms.specs.declared.place.Place.{Place}
use Rattle.exam_model.specs.declared.parts.Room.{Room}
use Rattle.exam_model.specs.Enrolments.{has_number}
use Rattle.exam_model.specs.Instance.{Session}
use Rattle.exam_model.specs.Pairs.{Pair}
use Rattle.exam_model.specs.Timetable.{Placing}
use Rattle.exam_rules.specs.Places.{is_one_place}
use Rattle.exam_publish.specs.declared.entrants.Entrant.{Entrant}
use Rattle.exam_publish.specs.declared.seat_row.SeatRow.{SeatRow}
use Rattle.exam_publish.specs.Rows.{row_place, RowsInOrder}
use Rattle.exam_publish.specs.Entrants.{entrants, old_rows}

-- ---- seats

-- a seat from 1 up to the number of students that a room holds
abbrev pub IsSeatOf : Option Room → ℕ → Type 0
IsSeatOf None seat = ⊥
IsSeatOf (Some room) seat = (1 ≤ seat) × (seat ≤ room.capacity)

-- the row's seat is one of its room
abbrev pub HasSeat : Session → SeatRow → Type 0
HasSeat I row = IsSeatOf (slice_get I.rooms row.room) row.seat

-- two rows of one period and room have different seats
abbrev pub HaveOwnSeats : SeatRow → SeatRow → Type 0
HaveOwnSeats row other =
    row.period ≡ other.period → row.room ≡ other.room → row.seat ≡ other.seat → ⊥

-- rows in order, each with a seat of its room, and no two with the same seat
pub record AreSeated (I : Session) (rows : List SeatRow) : Type 0 where
  pub in_order : RowsInOrder rows
  pub within : All (HasSeat I) rows
  pub own : AllPairs HaveOwnSeats rows

-- ---- the seats of the others

-- the seats that rows have in a room and period
abbrev pub seats_at : Place → List SeatRow → List ℕ
seats_at at rows = map (λ row. row.seat) (filter (λ row. is_one_place at (row_place row)) rows)

-- the least number from 1 that is not among these
abbrev pub least_free : List ℕ → ℕ
least_free taken =
    position_or_len (λ n. not (has_number taken n)) (range_with_len 1 (length taken)) + 1

-- the row of an entrant who keeps none: with the least seat there that no row has
abbrev pub new_row : List SeatRow → Entrant → SeatRow
new_row current x = record {
  student = x.student;
  exam = x.exam;
  period = x.place.period;
  room = x.place.room;
  seat = least_free (seats_at x.place current);
}

-- an entrant's row, given the rows that are there: the kept one, or a new one
abbrev pub entrant_row : List SeatRow → Entrant → SeatRow
entrant_row current x = unwrap_or x.kept (new_row current x)

-- a new row is added to those that are there; a kept one is there already
abbrev pub rows_with_entrant : List SeatRow → Entrant → List SeatRow
rows_with_entrant current x = if is_some x.kept then current else new_row current x ∷ current

-- the rows of entrants one after another, given the rows that are there
abbrev pub rows_after_entrants : List SeatRow → List Entrant → List SeatRow
rows_after_entrants current [] = []
rows_after_entrants current (x ∷ xs) =
    entrant_row current x ∷ rows_after_entrants (rows_with_entrant current x) xs

-- the rows of all entrants: the kept ones are there before any new one is assigned
abbrev pub rows_for : List Entrant → List SeatRow
rows_for xs = rows_after_entrants (old_rows xs) xs

-- the rows of all pairs, in their order
abbrev pub seat_rows : List Pair → Placing → List SeatRow → List SeatRow
seat_rows pairs T old = rows_for (entrants pairs T old)
