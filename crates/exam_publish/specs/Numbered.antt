-- If no seat is kept, seats are numbered through each room and period, by exam and then by student.
use Rattle.std.specs.Prelude.{ℕ, ◌+◌, Bool, ◌&&◌, List, Option, count_by, filter_map, option_map}
use Rattle.exam_terms.specs.declared.place.Place.{Place}
use Rattle.exam_model.specs.Pairs.{Pair}
use Rattle.exam_model.specs.Timetable.{Placing, place_of}
use Rattle.exam_rules.specs.Places.{place_satisfies, is_one_place}
use Rattle.exam_publish.specs.declared.seat_row.SeatRow.{SeatRow}
use Rattle.exam_publish.specs.Rows.{is_pair_before}

-- whether a pair's exam is in this room and period
abbrev pub sits_at : Placing → Place → Pair → Bool
sits_at T at q = place_satisfies (is_one_place at) (place_of T q.exam)

-- one more than the number of earlier pairs in this room and period
abbrev pub seat_number : List Pair → Placing → Place → Pair → ℕ
seat_number pairs T at p = count_by (λ q. is_pair_before q p && sits_at T at q) pairs + 1

-- a pair's row with a seat
abbrev pub row_with : Pair → Place → ℕ → SeatRow
row_with p at seat = record {
  student = p.student;
  exam = p.exam;
  period = at.period;
  room = at.room;
  seat = seat;
}

-- a pair's row, if its exam has a place
abbrev pub seat_row : List Pair → Placing → Pair → Option SeatRow
seat_row pairs T p =
    option_map (λ at. row_with p at (seat_number pairs T at p)) (place_of T p.exam)

-- the rows of all pairs, in their order
abbrev pub numbered_rows : List Pair → Placing → List SeatRow
numbered_rows pairs T = filter_map (seat_row pairs T) pairs
