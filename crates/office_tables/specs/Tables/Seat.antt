-- The table seat: its schema, the columns of a row, which rows fit, and their order.
use Rattle.std.specs.Prelude.{◌<◌, pos, List, [], ◌∷◌, codes}
use Rattle.sqlite_value.specs.declared.value.Value.TheVariants.{Int}
use Rattle.sqlite_value.specs.Order.{Row}
use Rattle.sqlite_schema.specs.declared.schema.Table.{Table}
use Rattle.sqlite_trees.specs.Tree.{IsAscending}
use Rattle.office_schema.specs.Schema.{int, seated_table}
use Rattle.office_tables.specs.declared.table.Insert.{Insert}
use Rattle.office_tables.specs.declared.tables.seat.SeatRow.{SeatRow}
use Rattle.office_tables.specs.Records.{IsNarrow}

-- the seats; no two rows have the same seat of a room in the same period
abbrev pub seat_table : Table
seat_table = seated_table (codes "seat") 8
    (int (codes "student") ∷ int (codes "exam") ∷ int (codes "period") ∷ int (codes "room") ∷
    int (codes "seat") ∷ [])

-- a seat's columns
abbrev pub seat_columns : SeatRow → Row
seat_columns r =
    Int (pos r.student) ∷ Int (pos r.exam) ∷ Int (pos r.period) ∷ Int (pos r.room) ∷
    Int (pos r.seat) ∷ []

-- a seat's numbers have 32 bits
abbrev pub FitsSeat : SeatRow → Type 0
FitsSeat r =
    IsNarrow r.student × IsNarrow r.exam × IsNarrow r.period × IsNarrow r.room × IsNarrow r.seat

-- one student's seats, by exam, strictly ascending
abbrev pub StudentSeatsRise : List SeatRow → Type 0
StudentSeatsRise = IsAscending (λ (a b : SeatRow). a.exam < b.exam)

-- adds a seat
abbrev pub InsertSeat : Type 0
InsertSeat = Insert SeatRow 5 16
