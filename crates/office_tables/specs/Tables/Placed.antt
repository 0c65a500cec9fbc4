-- The table placed: its schema, the columns of a row, which rows fit, and their order.
use Rattle.std.specs.Prelude.{◌<◌, pos, List, [], ◌∷◌, codes}
use Rattle.sqlite_value.specs.declared.value.Value.TheVariants.{Int}
use Rattle.sqlite_value.specs.Order.{Row}
use Rattle.sqlite_schema.specs.declared.schema.Table.{Table}
use Rattle.sqlite_trees.specs.Tree.{IsAscending}
use Rattle.office_schema.specs.Schema.{int, keyed_table}
use Rattle.office_tables.specs.declared.table.Insert.{Insert}
use Rattle.office_tables.specs.declared.tables.placed.PlacedRow.{PlacedRow}
use Rattle.office_tables.specs.Records.{IsNarrow}

-- the published places of exams
abbrev pub placed_table : Table
placed_table = keyed_table (codes "placed") 7
    (int (codes "exam") ∷ int (codes "period") ∷ int (codes "room") ∷ [])

-- the columns of a published place
abbrev pub placed_columns : PlacedRow → Row
placed_columns r = Int (pos r.exam) ∷ Int (pos r.period) ∷ Int (pos r.room) ∷ []

-- the numbers of a published place have 32 bits
abbrev pub FitsPlacement : PlacedRow → Type 0
FitsPlacement r = IsNarrow r.exam × IsNarrow r.period × IsNarrow r.room

-- by exam, strictly ascending
abbrev pub PlacementsRise : List PlacedRow → Type 0
PlacementsRise = IsAscending (λ (a b : PlacedRow). a.exam < b.exam)

-- adds a published place
abbrev pub InsertPlacement : Type 0
InsertPlacement = Insert PlacedRow 3 16
