-- The batches that an office keeps, by their rows.
use Rattle.std.proofs.Common.{◌≡◌, ◌≢◌, ℕ, ◌≤◌, Bool, true, false, cond, eqb, List, ◌∷◌, map, filter, length, [], Option, Some, None, Ok, refl, sym, ◌∙◌, ap, subst, arith}
use Rattle.std.specs.Cmp.Lexicographic.{pointwise}
use Rattle.std.specs.List.{AllByRecursion}
use Rattle.std.specs.Prelude.{IsPermutation, ◌&&◌, nat_eq, not, option_to_list}
use Rattle.std.proofs.lemmas.Bool.Decides.{nat_tests}
use Rattle.std.proofs.lemmas.List.Sorted.{IsPermutation-sym}
use Rattle.std.proofs.Math.Bool.{not-not}
use Rattle.exam_lists.proofs.Parts.{same_head}
use Rattle.exam_lists.proofs.Chains.{IsChain, chain_from_index}
use Rattle.exam_lists.proofs.Permutations.{same_few}
use Rattle.sqlite_trees.proofs.ListLemmas.{IsPermutation-filter, filter-map}
use Rattle.office_tables.specs.Tables.Batches.{batch_from, Batch}
use Rattle.office_tables.specs.Tables.{Tables}
use Rattle.office_tables.specs.declared.tables.batch.BatchRow.{BatchRow}
use Rattle.exam_terms.specs.Refusing.{◌>>=◌, unless}
use Rattle.exam_model.specs.declared.change.Change.{Change}
use Rattle.office_batches.specs.BatchText.{batch_in}
use Rattle.office_model.specs.Batches.{batch_enrolled, batch_of_number, batch_numbered, same_bytes}
use Rattle.office_model.specs.Commands.{CommandResult}
use Rattle.office_model.specs.declared.counts.Counts.{Counts}
use Rattle.office_model.specs.declared.fault.StoreFault.TheVariants.{BatchDiffers}
use Rattle.office_model.specs.Office.{AreRecords, IsOffice, KeptBatch, OfficeState, Records}
use Rattle.office_records.specs.Representation.{TablesRepresentOffice, TablesRepresentRecords}
use Rattle.office_records.specs.TableRows.{stored_batch}
use Rattle.office_store.specs.NewBatches.{IsRowOf, first_counts}
use Rattle.office_store.specs.Running.{CommandOutcome}

-- a number that no batch has
none_under : (number : ℕ) (b : KeptBatch) → b.no ≡ number → (kept : List KeptBatch)
    → AllByRecursion (λ (c : KeptBatch). b.no ≢ c.no) kept
    → filter (λ (c : KeptBatch). eqb c.no number) kept ≡ []
none_under number b is [] apart = refl
none_under number b is (c ∷ kept) apart =
    let differs : eqb c.no number ≡ false
    = grind (arith, nat_tests, is, apart.0) in
    ap (λ t. cond t (c ∷ filter (λ (c : KeptBatch). eqb c.no number) kept)
    (filter (λ (c : KeptBatch). eqb c.no number) kept)) differs
    ∙ none_under number b is kept apart.1

-- the batches with a number are the one that is found under it
one_under : (number : ℕ) (kept : List KeptBatch)
    → IsChain (λ (b c : KeptBatch). b.no ≢ c.no) kept
    → filter (λ (b : KeptBatch). eqb b.no number) kept ≡ option_to_list (batch_numbered number kept)
one_under number [] apart = refl
one_under number (b ∷ kept) apart =
    elim (eqb b.no number) as (λ t. eqb b.no number ≡ t
    → cond t (b ∷ filter (λ (b : KeptBatch). eqb b.no number) kept)
    (filter (λ (b : KeptBatch). eqb b.no number) kept)
    ≡ option_to_list (cond t (Some b) (batch_numbered number kept))) [
      | true ↦ λ e. ap (λ (l : List KeptBatch). b ∷ l)
          (none_under number b (grind (arith, nat_tests, e)) kept apart.0)
      | false ↦ λ e. one_under number kept apart.1
    ] refl

few_under : (o : Option KeptBatch) → length (map stored_batch (option_to_list o)) ≤ 1
few_under None = omega arith
few_under (Some b) = omega arith

module _ (t : Tables) (r : Records) (represents : TablesRepresentRecords t r)
    (is : AreRecords r) where
  -- the stored batch with a number is the office's
  stored_under : (number : ℕ) → filter (λ (b : Batch). eqb b.no number) t.batch
      ≡ map stored_batch (option_to_list (batch_numbered number r.batches))
  stored_under number =
      let here = filter (λ (b : Batch). eqb b.no number) (map stored_batch r.batches) in
      let same : here ≡ map stored_batch (option_to_list (batch_numbered number r.batches))
      = filter-map (λ (b : Batch). eqb b.no number) stored_batch r.batches
      ∙ ap (map stored_batch) (one_under number r.batches
      (chain_from_index (λ (b c : KeptBatch). b.no ≢ c.no) r.batches is.batches.numbers)) in
      same_few _ _ (few_under (batch_numbered number r.batches))
      (subst (λ l. IsPermutation l (filter (λ (b : Batch). eqb b.no number) t.batch)) same
      (IsPermutation-sym _ _
      (IsPermutation-filter (λ (b : Batch). eqb b.no number) _ _ represents.batches.same)))

pub batch_read : (t : Tables) (o : OfficeState) (number : ℕ) (found : Option BatchRow)
    → TablesRepresentOffice t o → IsOffice o
    → filter (λ (b : Batch). eqb b.no number) t.batch ≡ map batch_from (option_to_list found)
    → IsRowOf (batch_of_number o number) found
batch_read t None number found represents is row =
    sym row ∙ ap (λ (u : Tables). filter (λ (b : Batch). eqb b.no number) u.batch) represents
batch_read t (Some r) number found represents is row = sym row
    ∙ stored_under t r represents is number

-- no row means no batch
pub no_row_of : (o : OfficeState) (number : ℕ) → IsRowOf (batch_of_number o number) None
    → batch_of_number o number ≡ None
no_row_of o number is = go (batch_of_number o number) is
  where
    go : (kept : Option KeptBatch) → IsRowOf kept None → kept ≡ None
    go None none = refl
    go (Some b) none = absurd cc

-- ---- a number that is kept

again : (k : KeptBatch) (r : Records) (bytes : List ℕ)
    → CommandOutcome (unless (same_bytes k.bytes bytes) BatchDiffers >>= λ _. Ok (k.counts, Some r))
    (Some r)
    (λ new. new ≡ Some r) (first_counts (stored_batch k) bytes)
again k r bytes =
    elim (same_bytes k.bytes bytes) as (λ b.
    CommandOutcome (unless b BatchDiffers >>= λ _. Ok (k.counts, Some r)) (Some r)
    (λ new. new ≡ Some r)
    (unless b BatchDiffers >>= λ _. Ok k.counts)) [
      | true ↦ (Some r, refl, refl)
      | false ↦ (refl, refl)
    ]

-- a kept batch returns its first counts
pub again_does : (o : OfficeState) (number : ℕ) (bytes : List ℕ) (changes : List Change)
    (row : BatchRow) → batch_in bytes ≡ Ok changes → IsRowOf (batch_of_number o number) (Some row)
    → CommandOutcome (batch_enrolled number bytes o) o (λ new. new ≡ o)
    (first_counts (batch_from row) bytes)
again_does None number bytes changes row spelled is = absurd cc
again_does (Some r) number bytes changes row spelled is = go
    (batch_numbered number r.batches) refl is
  where
    go : (kept : Option KeptBatch) → batch_numbered number r.batches ≡ kept
        → IsRowOf kept (Some row)
        → CommandOutcome (batch_enrolled number bytes (Some r)) (Some r) (λ new. new ≡ Some r)
        (first_counts (batch_from row) bytes)
    go None there none = absurd cc
    go (Some k) there same =
        let row_is : stored_batch k ≡ batch_from row = sym (same_head same) in
        let gives : (unless (same_bytes k.bytes bytes) BatchDiffers >>= λ _. Ok (k.counts, Some r))
        ≡ batch_enrolled number bytes (Some r) = rw (spelled, there) refl in
        subst (λ b. CommandOutcome (batch_enrolled number bytes (Some r)) (Some r)
        (λ new. new ≡ Some r)
        (first_counts b bytes)) row_is
        (subst (λ (g : CommandResult Counts). CommandOutcome g (Some r) (λ new. new ≡ Some r)
        (first_counts (stored_batch k) bytes)) gives (again k r bytes))

-- ---- the bytes

bytes_same : (xs ys : List ℕ) → pointwise nat_eq xs ys ≡ same_bytes xs ys
bytes_same [] [] = refl
bytes_same [] (y ∷ ys) = refl
bytes_same (x ∷ xs) [] = refl
bytes_same (x ∷ xs) (y ∷ ys) = ap (λ b. eqb x y && b) (bytes_same xs ys)

-- the result of a comparison of two texts
pub returned_same : (xs bs ys : List ℕ) (other : Bool) → other ≡ not (pointwise nat_eq xs ys)
    → xs ≡ bs → same_bytes bs ys ≡ not other
returned_same xs bs ys other tested is =
    sym (ap (λ l. same_bytes l ys) is) ∙ sym (bytes_same xs ys)
    ∙ sym (not-not (pointwise nat_eq xs ys)) ∙ sym (ap not tested)

pub answer_is : (b : Batch) (bytes : List ℕ) (same : Bool) → same_bytes b.bytes bytes ≡ same
    → first_counts b bytes
    ≡ (unless same BatchDiffers >>= λ _.
    Ok (record { added = b.added; dropped = b.dropped; unchanged = b.unchanged }))
answer_is b bytes same is =
    let first : Counts
    = record { added = b.added; dropped = b.dropped; unchanged = b.unchanged } in
    ap (λ t. unless t BatchDiffers >>= λ _. Ok first) is
