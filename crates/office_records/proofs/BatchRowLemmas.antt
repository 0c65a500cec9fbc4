-- Rows of the batches that were accepted.
use Rattle.std.proofs.Common.{◌≡◌, ◌≢◌, ◌≤◌, true, eqb, List, map, filter, length, get_or, Some, None, refl, sym, ap, arith, subst}
use Rattle.std.specs.Prelude.{All}
use Rattle.std.specs.List.{AllByRecursion}
use Rattle.std.proofs.lemmas.Bool.{eq-eqb}
use Rattle.std.proofs.lemmas.List.{length-map}
use Rattle.std.proofs.lemmas.List.Elements.{All-from_recursion, recursion_from_All}
use Rattle.std.proofs.lemmas.List.Sorted.{IsPermutation-sym, length_permutation}
use Rattle.exam_lists.proofs.Chains.{chain_from_index, chain_map, index_from_chain}
use Rattle.exam_lists.proofs.Each.{each_from_filter}
use Rattle.exam_lists.proofs.Maps.{map_back}
use Rattle.sqlite_trees.proofs.ListLemmas.{IsPermutation-same, all-map, all-permutation, all_both, all_from_map, all_weaker}
use Rattle.office_tables.specs.Tables.Batches.{counts_of, FitsBatch, Batch}
use Rattle.office_tables.specs.Tables.{Tables}
use Rattle.office_tables.specs.declared.tables.batch.BatchCountsRow.{BatchCountsRow}
use Rattle.office_model.specs.Office.{AreKept, IsKeptBatch, IsOffice, KeptBatch, OfficeState}
use Rattle.office_records.specs.FoundBatches.{AreBatchRows, AreFoundBatches, IsBatchRow, IsShort}
use Rattle.office_records.specs.Representation.{TablesRepresentOffice, RowsRepresentBatches}
use Rattle.office_records.specs.TableRows.{stored_batch}

-- a stored batch as the office's kept batch
abbrev pub kept_batch : Batch → KeptBatch
kept_batch b = record {
  no = b.no;
  bytes = b.bytes;
  counts = record { added = b.added; dropped = b.dropped; unchanged = b.unchanged };
}

-- the default row if there is none
abbrev pub no_row : BatchCountsRow
no_row = record { no = 0; added = 0; dropped = 0; unchanged = 0 }

-- ---- from the rows to the batches

module _ (found : List BatchCountsRow) (batches : List Batch) (are : AreBatchRows found)
    (rows : map counts_of batches ≡ found) where
  each_row : AllByRecursion (λ (b : Batch). IsBatchRow (counts_of b)) batches
  each_row =
      all_from_map IsBatchRow counts_of batches
      (subst (AllByRecursion IsBatchRow) (sym rows) (recursion_from_All IsBatchRow found are.each))

  pub batches_represent : RowsRepresentBatches batches (map kept_batch batches)
  batches_represent = record {
    same = IsPermutation-same _ _ (sym (map_back kept_batch stored_batch (λ b. refl) batches));
    fit = all_weaker (λ (b : Batch). IsBatchRow (counts_of b)) FitsBatch (λ b is. is.fits) batches
        each_row;
  }

-- the batches found may be kept
pub batches_kept : (found : List BatchCountsRow) (batches : List Batch) → AreBatchRows found
    → AreFoundBatches found batches → AreKept (map kept_batch batches)
batches_kept found batches are these = record {
  few = let kept = length-map batches kept_batch in
      let rows = length-map batches counts_of in
      let long = ap (λ (l : List BatchCountsRow). length l) these.rows in
      let most = are.few in
      omega (arith, kept, rows, long, most);
  within = All-from_recursion IsKeptBatch (map kept_batch batches)
      (all-map IsKeptBatch kept_batch batches
      (all_both (λ (b : Batch). IsBatchRow (counts_of b)) IsShort (λ b. IsKeptBatch (kept_batch b))
      (λ b row short. record { number = row.number; size = short }) batches
      (each_row found batches are these.rows)
      (recursion_from_All IsShort batches these.short)));
  numbers = index_from_chain (λ (b c : KeptBatch). b.no ≢ c.no) _
      (chain_map (λ (b c : KeptBatch). b.no ≢ c.no) kept_batch batches
      (chain_from_index (λ (b c : Batch). b.no ≢ c.no) batches these.apart));
}

-- ---- from the batches to their rows

pub batch_rows : (found : List BatchCountsRow) (batches : List Batch) (kept : List KeptBatch)
    → map counts_of batches ≡ found → RowsRepresentBatches batches kept → AreKept kept
    → AreBatchRows found
batch_rows found batches kept rows represents are = record {
  few = let stored = length-map kept stored_batch in
      let same = length_permutation _ _ represents.same in
      let counted = length-map batches counts_of in
      let long = ap (λ (l : List BatchCountsRow). length l) rows in
      let most = are.few in
      omega (arith, stored, same, counted, long, most);
  each = subst (All IsBatchRow) rows
      (All-from_recursion IsBatchRow (map counts_of batches)
      (all-map IsBatchRow counts_of batches
      (all_both (λ (b : Batch). b.no ≤ 999999999) FitsBatch (λ b. IsBatchRow (counts_of b))
      (λ b number fits. record { number = number; fits = fits }) batches numbers represents.fit)));
}
  where
    numbers : AllByRecursion (λ (b : Batch). b.no ≤ 999999999) batches
    numbers =
        all-permutation (λ (b : Batch). b.no ≤ 999999999) (map stored_batch kept) batches
        (IsPermutation-sym _ _ represents.same)
        (all-map (λ (b : Batch). b.no ≤ 999999999) stored_batch kept
        (all_weaker IsKeptBatch (λ (b : KeptBatch). b.no ≤ 999999999) (λ b is. is.number) kept
        (recursion_from_All IsKeptBatch kept are.within)))

-- ---- each batch by its number

pub short_by_rows : (found : List BatchCountsRow) (batches : List Batch)
    → map counts_of batches ≡ found
    → All (λ (row : BatchCountsRow).
    AllByRecursion IsShort (filter (λ (b : Batch). eqb b.no row.no) batches)) found
    → All IsShort batches
short_by_rows found batches rows all k d within =
    let Picked : BatchCountsRow → Type 0
    = λ row. AllByRecursion IsShort (filter (λ (b : Batch). eqb b.no row.no) batches) in
    let b = get_or batches k d in
    let here = All-from_recursion (λ (b : Batch). Picked (counts_of b)) batches
    (all_from_map Picked counts_of batches
    (subst (AllByRecursion Picked) (sym rows) (recursion_from_All Picked found all))) k d within in
    All-from_recursion (λ (c : Batch). eqb c.no b.no ≡ true → IsShort c) batches
    (each_from_filter IsShort (λ c. eqb c.no b.no) batches here) k d within (eq-eqb b.no b.no refl)

-- an office's batches are not too long
pub stored_short : (t : Tables) (o : OfficeState) → TablesRepresentOffice t o → IsOffice o
    → All IsShort t.batch
stored_short t None represents is =
    subst (λ (u : Tables). All IsShort u.batch) (sym represents)
    (λ k d none. absurd (omega (arith, none)))
stored_short t (Some r) represents is =
    All-from_recursion IsShort t.batch
    (all-permutation IsShort (map stored_batch r.batches) t.batch
    (IsPermutation-sym _ _ represents.batches.same)
    (all-map IsShort stored_batch r.batches
    (all_weaker IsKeptBatch (λ (b : KeptBatch). length b.bytes ≤ 1048576) (λ b is. is.size)
    r.batches (recursion_from_All IsKeptBatch r.batches is.batches.within))))
