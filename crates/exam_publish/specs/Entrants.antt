-- The entrants, who need a seat, and the old rows that are kept: those whose exam has the same
-- place.
use Rattle.std.specs.Prelude.{◌≡◌, ℕ, ◌<◌, ◌≤◌, Bool, ◌&&◌, if◌then◌else◌, List, Option, None, Some, length, filter_map, option_map, slice_index_or}
use Rattle.std.specs.List.{find}
use Rattle.exam_terms.specs.declared.place.Place.{Place}
use Rattle.exam_model.specs.Pairs.{Pair, is_pair}
use Rattle.exam_model.specs.Timetable.{Placing, place_of}
use Rattle.exam_rules.specs.Places.{is_one_place}
use Rattle.exam_publish.specs.declared.entrants.Entrant.{Entrant}
use Rattle.exam_publish.specs.declared.seat_row.SeatRow.{SeatRow}
use Rattle.exam_publish.specs.Rows.{row_place}

-- whether a row is the pair's, in this room and period
abbrev pub is_row_at : Pair → Place → SeatRow → Bool
is_row_at p at row = is_pair row.student row.exam p && is_one_place at (row_place row)

-- a row if it is in this room and period
abbrev pub row_if_at : Place → SeatRow → Option SeatRow
row_if_at at row = if is_one_place at (row_place row) then Some row else None

-- the row at index i is the pair's
pub record IsRowOf (rows : List SeatRow) (p : Pair) (i : ℕ) : Type 0 where
  pub within : i < length rows
  pub exam : (d : SeatRow) → (slice_index_or rows i d).exam ≡ p.exam
  pub student : (d : SeatRow) → (slice_index_or rows i d).student ≡ p.student

-- the only row of the pair is at index i; if that is the number of rows, there is none
pub record IsIndexOf (rows : List SeatRow) (p : Pair) (i : ℕ) : Type 0 where
  pub within : i ≤ length rows
  pub none : i ≡ length rows → (at : Place) → find (is_row_at p at) rows ≡ None
  pub one : i < length rows → (at : Place) (d : SeatRow)
      → find (is_row_at p at) rows ≡ row_if_at at (slice_index_or rows i d)

-- a pair, the exam's current place, and the pair's old row if it is at that place
abbrev pub entrant : List SeatRow → Pair → Place → Entrant
entrant old p at = record {
  student = p.student;
  exam = p.exam;
  place = at;
  kept = find (is_row_at p at) old;
}

-- the entrants of the pairs whose exams have places, in order
abbrev pub entrants : List Pair → Placing → List SeatRow → List Entrant
entrants pairs T old =
    filter_map (λ p. option_map (entrant old p) (place_of T p.exam)) pairs

-- the rows that entrants keep
abbrev pub old_rows : List Entrant → List SeatRow
old_rows xs = filter_map (λ x. x.kept) xs
