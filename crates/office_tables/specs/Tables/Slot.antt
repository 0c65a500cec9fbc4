-- The table slot: its schema, the columns of a row, and which rows fit.
use Rattle.std.specs.Prelude.{pos, [], ◌∷◌, codes}
use Rattle.sqlite_value.specs.declared.value.Value.TheVariants.{Int}
use Rattle.sqlite_value.specs.Order.{Row}
use Rattle.sqlite_schema.specs.declared.schema.Table.{Table}
use Rattle.office_schema.specs.Schema.{int, paired_table}
use Rattle.office_tables.specs.declared.table.Insert.{Insert}
use Rattle.office_tables.specs.declared.tables.slot.SlotRow.{SlotRow}
use Rattle.office_tables.specs.Records.{IsNarrow}

-- the places of a draft's exams
abbrev pub slot_table : Table
slot_table = paired_table (codes "slot") 5
    (int (codes "draft") ∷ int (codes "exam") ∷ int (codes "period") ∷ int (codes "room") ∷ [])

-- the columns of a draft's place
abbrev pub slot_columns : SlotRow → Row
slot_columns r = Int (pos r.draft) ∷ Int (pos r.exam) ∷ Int (pos r.period) ∷ Int (pos r.room) ∷ []

-- the numbers of a draft's place have 32 bits
abbrev pub FitsSlot : SlotRow → Type 0
FitsSlot r = IsNarrow r.draft × IsNarrow r.exam × IsNarrow r.period × IsNarrow r.room

-- adds a place of a draft's exam
abbrev pub InsertSlot : Type 0
InsertSlot = Insert SlotRow 4 16
