-- The table owner: its schema, the columns of a row, and which rows fit.
use Rattle.std.specs.Prelude.{pos, [], ◌∷◌, codes}
use Rattle.sqlite_value.specs.declared.value.Value.TheVariants.{Int}
use Rattle.sqlite_value.specs.Order.{Row}
use Rattle.sqlite_schema.specs.declared.schema.Table.{Table}
use Rattle.office_schema.specs.Schema.{int, keyed_table}
use Rattle.office_tables.specs.declared.table.Insert.{Insert}
use Rattle.office_tables.specs.declared.tables.owner.OwnerRow.{OwnerRow}
use Rattle.office_tables.specs.Records.{IsNarrow}

-- the department that an exam belongs to; no row if it belongs to none
abbrev pub owner_table : Table
owner_table = keyed_table (codes "owner") 1
    (int (codes "exam") ∷ int (codes "dept") ∷ [])

-- an owner's columns
abbrev pub owner_columns : OwnerRow → Row
owner_columns r = Int (pos r.exam) ∷ Int (pos r.dept) ∷ []

-- an owner's numbers have 32 bits
abbrev pub FitsOwner : OwnerRow → Type 0
FitsOwner r = IsNarrow r.exam × IsNarrow r.dept

-- adds the owner of an exam
abbrev pub InsertOwner : Type 0
InsertOwner = Insert OwnerRow 2 1
