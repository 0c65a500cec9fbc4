-- The tables share_student and night_share: their schema, the columns of a row, which rows fit,
-- their order and their amounts.
use Rattle.std.specs.Prelude.{◌≡◌, ◌<◌, pos, List, [], ◌∷◌, codes}
use Rattle.std.specs.List.{AllByRecursion}
use Rattle.sqlite_value.specs.declared.value.Value.TheVariants.{Int}
use Rattle.sqlite_value.specs.Order.{Row}
use Rattle.sqlite_schema.specs.declared.schema.Table.{Table}
use Rattle.sqlite_trees.specs.Tree.{IsAscending}
use Rattle.office_schema.specs.Schema.{int, keyed_table}
use Rattle.office_tables.specs.declared.tables.share_student.StudentShareRow.{StudentShareRow}
use Rattle.office_tables.specs.Nights.{bare_columns}
use Rattle.office_tables.specs.Records.{IsNarrow}
use Rattle.office_tables.specs.Amounts.{IsStorable}

-- the share of each candidate with a seat in the publication's penalty, without the amount over
-- night
abbrev pub share_student_table : Table
share_student_table = keyed_table (codes "share_student") 11
    (int (codes "student") ∷ int (codes "in_row") ∷ int (codes "in_day") ∷ int (codes "spread") ∷
    [])

-- the amount over night in the share of each candidate with a seat
abbrev pub night_share_table : Table
night_share_table = keyed_table (codes "night_share") 16
    (int (codes "student") ∷ int (codes "night") ∷ [])

-- the columns of a student's share in the table share_student
abbrev pub share_student_columns : StudentShareRow → Row
share_student_columns r =
    Int (pos r.student) ∷ Int (pos r.in_row) ∷ Int (pos r.in_day) ∷ Int (pos r.spread) ∷ []

-- its columns in the table night_share
abbrev pub night_share_columns : StudentShareRow → Row
night_share_columns r = Int (pos r.student) ∷ Int (pos r.night) ∷ []

-- its columns if it is read from only the table share_student
abbrev pub bare_share_columns : StudentShareRow → Row
bare_share_columns r = bare_columns r.night (share_student_columns r)

-- its columns if it is read from both tables
abbrev pub share_shown : StudentShareRow → Row
share_shown r = Int (pos r.night) ∷ share_student_columns r

-- the student's number has 32 bits; the amounts may have 64
abbrev pub FitsStudentShare : StudentShareRow → Type 0
FitsStudentShare r = IsNarrow r.student

-- by student, strictly ascending
abbrev pub StudentSharesRise : List StudentShareRow → Type 0
StudentSharesRise = IsAscending (λ (a b : StudentShareRow). a.student < b.student)

-- no share has an amount over night
abbrev pub HaveNoNight : List StudentShareRow → Type 0
HaveNoNight rows = AllByRecursion (λ (r : StudentShareRow). r.night ≡ 0) rows

-- all four parts of a student's share are sums that the tables can hold
pub record AreStudentAmounts (row : StudentShareRow) : Type 0 where
  pub in_row : IsStorable row.in_row
  pub in_day : IsStorable row.in_day
  pub spread : IsStorable row.spread
  pub night : IsStorable row.night
