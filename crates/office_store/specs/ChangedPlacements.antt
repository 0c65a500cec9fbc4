-- The placements that differ between two publications, each listed by exam.
use Rattle.std.specs.Prelude.{ℕ, Bool, false, not, ◌&&◌, ◌==◌, if◌then◌else◌, List, [], ◌∷◌, filter, map}
use Rattle.std.specs.Prelude.{Option, None, Some}
use Rattle.exam_model.specs.Enrolments.{has_number}
use Rattle.office_tables.specs.declared.tables.placed.PlacedRow.{PlacedRow}

-- whether two placements are the same
abbrev pub is_same_row : PlacedRow → PlacedRow → Bool
is_same_row row other =
    (row.exam == other.exam) && ((row.period == other.period) && (row.room == other.room))

-- whether there is a placement, and it is this one
abbrev pub is_there : Option PlacedRow → PlacedRow → Bool
is_there None row = false
is_there (Some other) row = is_same_row row other

-- the placements that aren't at the same index among the others
abbrev pub changed_rows : List PlacedRow → List PlacedRow → List PlacedRow
changed_rows [] others = []
changed_rows (row ∷ rows) [] = row ∷ changed_rows rows []
changed_rows (row ∷ rows) (other ∷ others) =
    if is_same_row row other then changed_rows rows others else row ∷ changed_rows rows others

-- the exams of placements
abbrev pub exams_of : List PlacedRow → List ℕ
exams_of rows = map (λ row. row.exam) rows

-- the placements of all but these exams
abbrev pub placements_without : List ℕ → List PlacedRow → List PlacedRow
placements_without exams rows = filter (λ row. not (has_number exams row.exam)) rows
