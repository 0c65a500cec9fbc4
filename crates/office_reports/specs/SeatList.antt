-- The text of the seat list: a heading, then a line for each seat.
use Rattle.std.specs.Prelude.{ℕ, ◌++◌, ◌∷◌, [], List, codes, decimal}
use Rattle.std.specs.List.{flat_map}
use Rattle.exam_publish.specs.declared.seat_row.SeatRow.{SeatRow}

-- a seat's line: the candidate, the exam, its period and room, and the seat, with commas between
abbrev pub seat_line : SeatRow → List ℕ
seat_line row =
    decimal row.student ++ 44 ∷ decimal row.exam ++ 44 ∷ decimal row.period
    ++ 44 ∷ decimal row.room ++ 44 ∷ decimal row.seat ++ 10 ∷ []

-- the seat list: a heading, then the seats in their order
abbrev pub seats_text : List SeatRow → List ℕ
seats_text rows = codes "student,exam,period,room,seat\n" ++ flat_map seat_line rows
