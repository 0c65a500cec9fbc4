-- The text of the rooms report: a heading, then a line for each room and period with an exam.
use Rattle.std.specs.Prelude.{ℕ, ◌-◌, ◌++◌, ◌∷◌, [], List, length, codes, decimal, filter, count_by, replicate, Option, Some, None, slice_get}
use Rattle.std.specs.List.{flat_map, range_with_len}
use Rattle.exam_terms.specs.declared.place.Place.{Place}
use Rattle.exam_model.specs.Instance.{Session}
use Rattle.exam_model.specs.Timetable.{Placing, place_of}
use Rattle.exam_model.specs.declared.parts.Room.{Room}
use Rattle.exam_publish.specs.Rows.{row_place}
use Rattle.exam_publish.specs.declared.seat_row.SeatRow.{SeatRow}
use Rattle.exam_rules.specs.Places.{is_one_place, place_satisfies}

-- a number at the right of a column of this width; a longer one takes the room it needs
abbrev pub right_aligned : ℕ → ℕ → List ℕ
right_aligned width n = replicate (width - length (decimal n)) 32 ++ decimal n

-- each exam, with a space before it
abbrev pub spaced_numbers : List ℕ → List ℕ
spaced_numbers exams = flat_map (λ e. 32 ∷ decimal e) exams

-- the place of these numbers
abbrev pub place : ℕ → ℕ → Place
place p r = record { period = p; room = r }

-- the exams that are in a place, ascending
abbrev pub exams_in : Placing → Place → List ℕ
exams_in T at =
    filter (λ e. place_satisfies (is_one_place at) (place_of T e)) (range_with_len 0 (length T))

-- how many of the seats are in a place
abbrev pub seats_in : List SeatRow → Place → ℕ
seats_in rows at = count_by (λ row. is_one_place at (row_place row)) rows

-- a room's capacity; 0 if there is no such room
abbrev pub capacity_of : Option Room → ℕ
capacity_of None = 0
capacity_of (Some room) = room.capacity

-- the line of a place: its period, its room, the number of its used seats, the room's capacity, and
-- after two spaces the exams
abbrev pub room_line : Place → ℕ → ℕ → List ℕ → List ℕ
room_line at used capacity exams =
    right_aligned 3 at.period ++ right_aligned 5 at.room
    ++ right_aligned 8 used ++ right_aligned 8 capacity
    ++ 32 ∷ spaced_numbers exams ++ 10 ∷ []

-- the line of a place; empty if no exam is there
abbrev pub line_with : Place → ℕ → ℕ → List ℕ → List ℕ
line_with at used capacity [] = []
line_with at used capacity (e ∷ exams) = room_line at used capacity (e ∷ exams)

-- the line of a place in a timetable
abbrev pub place_line : Session → Placing → List SeatRow → Place → List ℕ
place_line I T rows at =
    line_with at (seats_in rows at) (capacity_of (slice_get I.rooms at.room)) (exams_in T at)

-- the lines of a period, by room
abbrev pub period_lines : Session → Placing → List SeatRow → ℕ → List ℕ
period_lines I T rows p =
    flat_map (λ r. place_line I T rows (place p r)) (range_with_len 0 (length I.rooms))

-- the rooms report, by period and then by room
abbrev pub rooms_text : Session → Placing → List SeatRow → List ℕ
rooms_text I T rows =
    codes "per room    used     cap  exams\n"
    ++ flat_map (period_lines I T rows) (range_with_len 0 (length I.periods))
