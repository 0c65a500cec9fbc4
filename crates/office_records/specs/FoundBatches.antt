-- When the rows of batches found, without their bytes, are those of kept batches.
use Rattle.std.specs.Prelude.{◌≡◌, ◌≢◌, ◌≤◌, List, map, length, All, AllPairs}
use Rattle.exam_terms.specs.declared.limits.TheConstants.{MAX_BATCH, MAX_BATCHES, TEXT_BYTES}
use Rattle.office_tables.specs.Tables.Batches.{counts_of, FitsCounts, Batch}
use Rattle.office_tables.specs.declared.tables.batch.BatchCountsRow.{BatchCountsRow}

-- the row of a batch with a valid number
pub record IsBatchRow (row : BatchCountsRow) : Type 0 where
  pub number : row.no ≤ MAX_BATCH
  pub fits : FitsCounts row

-- these rows are of batches that may be kept
pub record AreBatchRows (rows : List BatchCountsRow) : Type 0 where
  pub few : length rows ≤ MAX_BATCHES
  pub each : All IsBatchRow rows

-- a batch within the limit of bytes of a text
abbrev pub IsShort : Batch → Type 0
IsShort b = length b.bytes ≤ TEXT_BYTES

-- these batches have the rows found, no two have the same number, and none is too long
pub record AreFoundBatches (found : List BatchCountsRow) (batches : List Batch) : Type 0 where
  pub rows : map counts_of batches ≡ found
  pub apart : AllPairs (λ b c. b.no ≢ c.no) batches
  pub short : All IsShort batches
