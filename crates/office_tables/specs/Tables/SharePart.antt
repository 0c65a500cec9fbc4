-- The table share_part: its schema, the columns of a row, which rows fit, and their amounts.
use Rattle.std.specs.Prelude.{pos, [], ◌∷◌, codes}
use Rattle.sqlite_value.specs.declared.value.Value.TheVariants.{Int}
use Rattle.sqlite_value.specs.Order.{Row}
use Rattle.sqlite_schema.specs.declared.schema.Table.{Table}
use Rattle.office_schema.specs.Schema.{int, paired_table}
use Rattle.office_tables.specs.declared.table.Insert.{Insert}
use Rattle.office_tables.specs.declared.tables.share_part.PartShareRow.{PartShareRow}
use Rattle.office_tables.specs.Records.{IsNarrow}
use Rattle.office_tables.specs.Amounts.{IsStorable}

-- the share of each exam, period and room in it
abbrev pub share_part_table : Table
share_part_table = paired_table (codes "share_part") 12
    (int (codes "kind") ∷ int (codes "no") ∷ int (codes "penalty") ∷ int (codes "mixed") ∷ [])

-- the columns of the share of an exam, a period or a room
abbrev pub share_part_columns : PartShareRow → Row
share_part_columns r =
    Int (pos r.kind) ∷ Int (pos r.no) ∷ Int (pos r.penalty) ∷ Int (pos r.mixed) ∷ []

-- the kind and the number of a share have 32 bits; its amounts may have 64
abbrev pub FitsPartShare : PartShareRow → Type 0
FitsPartShare r = IsNarrow r.kind × IsNarrow r.no

-- both parts of such a share are sums that the tables can hold
pub record ArePartAmounts (row : PartShareRow) : Type 0 where
  pub penalty : IsStorable row.penalty
  pub mixed : IsStorable row.mixed

-- adds the share of an exam, a period or a room
abbrev pub InsertPartShare : Type 0
InsertPartShare = Insert PartShareRow 4 16
