-- The tables draft and night_draft: their schema, the columns of a row, which rows fit, and their
-- penalties.
use Rattle.std.specs.Prelude.{pos, [], ◌∷◌, codes}
use Rattle.sqlite_value.specs.declared.value.Value.TheVariants.{Int}
use Rattle.sqlite_value.specs.Order.{Row}
use Rattle.sqlite_schema.specs.declared.schema.Table.{Table}
use Rattle.office_schema.specs.Schema.{int, keyed_table}
use Rattle.office_tables.specs.declared.tables.draft.DraftRow.{DraftRow}
use Rattle.office_tables.specs.Nights.{bare_columns}
use Rattle.office_tables.specs.Records.{IsNarrow}
use Rattle.office_tables.specs.Amounts.{IsStorable}

-- the drafts, each with seven parts of its penalty; the eighth is in night_draft
abbrev pub draft_table : Table
draft_table = keyed_table (codes "draft") 4
    (int (codes "no") ∷ int (codes "in_row") ∷ int (codes "in_day") ∷ int (codes "spread") ∷
    int (codes "mixed") ∷ int (codes "front") ∷ int (codes "period") ∷ int (codes "room") ∷ [])

-- the amount over night in each draft's penalty
abbrev pub night_draft_table : Table
night_draft_table = keyed_table (codes "night_draft") 15
    (int (codes "no") ∷ int (codes "night") ∷ [])

-- a draft's columns in the table draft
abbrev pub draft_columns : DraftRow → Row
draft_columns r =
    Int (pos r.no) ∷ Int (pos r.in_row) ∷ Int (pos r.in_day) ∷ Int (pos r.spread) ∷
    Int (pos r.mixed) ∷ Int (pos r.front) ∷ Int (pos r.period) ∷ Int (pos r.room) ∷ []

-- its columns in the table night_draft
abbrev pub night_draft_columns : DraftRow → Row
night_draft_columns r = Int (pos r.no) ∷ Int (pos r.night) ∷ []

-- its columns if it is read from only the table draft
abbrev pub bare_draft_columns : DraftRow → Row
bare_draft_columns r = bare_columns r.night (draft_columns r)

-- a draft's number has 32 bits; the parts of its penalty may have 64
abbrev pub FitsDraft : DraftRow → Type 0
FitsDraft r = IsNarrow r.no

-- all eight parts of a draft's penalty are sums that the tables can hold
pub record AreAmounts (row : DraftRow) : Type 0 where
  pub in_row : IsStorable row.in_row
  pub in_day : IsStorable row.in_day
  pub spread : IsStorable row.spread
  pub mixed : IsStorable row.mixed
  pub front : IsStorable row.front
  pub period : IsStorable row.period
  pub room : IsStorable row.room
  pub night : IsStorable row.night
