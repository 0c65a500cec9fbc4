-- The seat rows that a republication rewrites.
use Rattle.std.specs.Prelude.{Bool, not, ◌&&◌, ◌==◌, List, filter}
use Rattle.std.specs.List.{list_any}
use Rattle.exam_publish.specs.declared.seat_row.SeatRow as publish
use Rattle.exam_publish.specs.Changed.{same_row}
use Rattle.office_tables.specs.declared.tables.seat.SeatRow.{SeatRow}

-- whether one of these rows agrees with a row in all that it says
abbrev pub has_same : List publish.SeatRow → publish.SeatRow → Bool
has_same rows row = list_any (λ other. same_row other row) rows

-- the rows with which none of the others agrees
abbrev pub rows_beside : List publish.SeatRow → List publish.SeatRow → List publish.SeatRow
rows_beside others rows = filter (λ row. not (has_same others row)) rows

-- whether one of these is a seat of the same student in the same exam
abbrev pub has_seat : List SeatRow → SeatRow → Bool
has_seat seats row =
    list_any (λ seat. (row.student == seat.student) && (row.exam == seat.exam)) seats

-- the stored seats but for these students' in these exams
abbrev pub seats_without : List SeatRow → List SeatRow → List SeatRow
seats_without gone stored = filter (λ row. not (has_seat gone row)) stored
