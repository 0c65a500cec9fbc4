-- The table batch: its schema, the columns of its rows with and without their bytes, and which rows
-- are found.
use Rattle.std.specs.Prelude.{◌≡◌, ℕ, pos, List, [], ◌∷◌, map, codes, Option, None, Some, Vec}
use Rattle.std.specs.List.{AllByRecursion}
use Rattle.std.specs.declared.alloc.Global.{Global}
use Rattle.sqlite_value.specs.declared.value.Value.TheVariants.{Blob, Int}
use Rattle.sqlite_value.specs.Order.{Row}
use Rattle.sqlite_schema.specs.declared.schema.Table.{Table}
use Rattle.sqlite.specs.Effect.{Database}
use Rattle.office_schema.specs.Schema.{blob, int, keyed_table}
use Rattle.office_tables.specs.declared.tables.batch.BatchCountsRow.{BatchCountsRow}
use Rattle.office_tables.specs.declared.tables.batch.BatchRow.{BatchRow}
use Rattle.office_tables.specs.Stored.{keyed_columns, Holds}
use Rattle.office_tables.specs.Records.{IsNarrow}

-- the accepted batches: their bytes, and the counts of their answers
abbrev pub batch_table : Table
batch_table = keyed_table (codes "batch") 14
    (int (codes "no") ∷ blob (codes "bytes") ∷ int (codes "added") ∷ int (codes "dropped") ∷
    int (codes "unchanged") ∷ [])

-- an accepted batch, with its answer
pub record Batch : Type 0 where
  pub no : ℕ
  pub bytes : List ℕ
  pub added : ℕ
  pub dropped : ℕ
  pub unchanged : ℕ

-- a batch's columns
abbrev pub batch_columns : Batch → Row
batch_columns r =
    Int (pos r.no) ∷ Blob r.bytes ∷ Int (pos r.added) ∷ Int (pos r.dropped) ∷
    Int (pos r.unchanged) ∷ []

-- the batch of the program's row
abbrev pub batch_from : BatchRow → Batch
batch_from r = record {
  no = r.no;
  bytes = r.bytes.items;
  added = r.added;
  dropped = r.dropped;
  unchanged = r.unchanged;
}

-- a batch without its bytes
abbrev pub counts_of : Batch → BatchCountsRow
counts_of r = record { no = r.no; added = r.added; dropped = r.dropped; unchanged = r.unchanged }

-- a batch's number and counts, as a SELECT gives them
abbrev pub counts_columns : BatchCountsRow → Row
counts_columns r =
    Int (pos r.no) ∷ Int (pos r.added) ∷ Int (pos r.dropped) ∷ Int (pos r.unchanged) ∷ []

-- a batch's number and counts have 32 bits
abbrev pub FitsCounts : BatchCountsRow → Type 0
FitsCounts r = IsNarrow r.no × IsNarrow r.added × IsNarrow r.dropped × IsNarrow r.unchanged

-- the same for the batch with its bytes
abbrev pub FitsBatch : Batch → Type 0
FitsBatch r = FitsCounts (counts_of r)

-- `Some`: the table holds batches, and these are their numbers and counts. `None`: it holds no
-- batches that fit
abbrev pub IsFoundBatches : Database → Option (Vec BatchCountsRow Global) → Type 0
IsFoundBatches db (Some found) =
    (batches : List Batch) × (map counts_of batches ≡ found.items)
    × Holds keyed_columns (map batch_columns batches) (db.trees 14)
IsFoundBatches db None =
    (batches : List Batch) → AllByRecursion FitsBatch batches
    → Holds keyed_columns (map batch_columns batches) (db.trees 14) → ⊥
