-- The candidates whose rows differ between two lists of rows.
use Rattle.std.specs.Prelude.{ℕ, Bool, true, false, not, ◌&&◌, ◌==◌, List, [], ◌∷◌, ◌++◌, map, filter}
use Rattle.std.specs.List.{list_any}
use Rattle.exam_model.specs.Changes.{with_student}
use Rattle.exam_model.specs.Enrolments.{has_number}
use Rattle.exam_publish.specs.declared.seat_row.SeatRow.{SeatRow}

-- one candidate's rows
abbrev pub rows_of : ℕ → List SeatRow → List SeatRow
rows_of s rows = filter (λ row. row.student == s) rows

-- whether a candidate has a row
abbrev pub has_row : List SeatRow → ℕ → Bool
has_row rows s = list_any (λ row. row.student == s) rows

-- the rows of these candidates
abbrev pub rows_among : List ℕ → List SeatRow → List SeatRow
rows_among students rows = filter (λ row. has_number students row.student) rows

-- whether two rows agree in all that they say
abbrev pub same_row : SeatRow → SeatRow → Bool
same_row r q =
    (r.student == q.student) && ((r.exam == q.exam)
    && ((r.period == q.period) && ((r.room == q.room) && (r.seat == q.seat))))

-- whether two lists hold the same rows one by one
abbrev pub same_rows : List SeatRow → List SeatRow → Bool
same_rows [] [] = true
same_rows [] (q ∷ qs) = false
same_rows (r ∷ rs) [] = false
same_rows (r ∷ rs) (q ∷ qs) = same_row r q && same_rows rs qs

-- whether a candidate's rows differ
abbrev pub is_changed : List SeatRow → List SeatRow → ℕ → Bool
is_changed old new s = not (same_rows (rows_of s old) (rows_of s new))

-- the numbers of a list, ascending, each once
abbrev pub sorted_numbers : List ℕ → List ℕ
sorted_numbers [] = []
sorted_numbers (s ∷ ss) = with_student s (sorted_numbers ss)

-- the candidates of these rows, ascending, each once
abbrev pub students_of : List SeatRow → List ℕ
students_of rows = sorted_numbers (map (λ row. row.student) rows)

-- the candidates in either list whose rows differ
abbrev pub changed_students : List SeatRow → List SeatRow → List ℕ
changed_students old new = filter (is_changed old new) (students_of (old ++ new))
