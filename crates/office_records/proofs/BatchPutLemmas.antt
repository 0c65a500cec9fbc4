-- A batch added to the tables.
use Rattle.std.proofs.Common.{◌≡◌, ◌≤◌, ℕ, eqb, List, Option, Some, Ok, arith}
use Rattle.std.specs.Prelude.{IsPermutation, is_some}
use Rattle.std.proofs.lemmas.List.Sorted.{IsPermutation-cons}
use Rattle.exam_lists.proofs.Permutations.{few_read}
use Rattle.sqlite_trees.proofs.ListLemmas.{IsPermutation-filter, all-permutation}
use Rattle.exam_model.specs.Enrolments.{Enrolled}
use Rattle.exam_model.specs.Instance.{Session}
use Rattle.exam_model.specs.Timetable.{Placing}
use Rattle.exam_model.specs.declared.change.Change.{Change}
use Rattle.exam_score.specs.Track.{track}
use Rattle.office_tables.specs.Tables.Batches.{FitsBatch, Batch}
use Rattle.office_tables.specs.Tables.{Tables}
use Rattle.office_tables.specs.declared.tables.draft.DraftRow.{DraftRow}
use Rattle.office_tables.specs.declared.tables.slot.SlotRow.{SlotRow}
use Rattle.office_model.specs.Office.{AreRecords, Records}
use Rattle.office_model.specs.declared.counts.Counts.{Counts}
use Rattle.office_enrolment.specs.AfterBatch.{lines_with_effect, after_batch, lines_in}
use Rattle.office_enrolment.specs.Keeping.{records_with_batch}
use Rattle.office_enrolment.proofs.RowLemmas.{rows_after_batch}
use Rattle.office_records.specs.BatchRows.{batch_put, enrol_rows}
use Rattle.office_records.specs.Found.{AreDrafts}
use Rattle.office_records.specs.Representation.{IsSound, TablesRepresentRecords, parts_of}
use Rattle.office_records.specs.TableRows.{stored_batch}
use Rattle.office_records.proofs.SameTables.{few_once}

module _ (number : ℕ) (bytes : List ℕ) (changes : List Change) (r : Records)
    (done : Counts × Enrolled) (is : AreRecords r)
    (accepted : after_batch changes r.enrolments ≡ Ok done) (t : Tables) (drafts : List DraftRow)
    (places : List SlotRow) (again : AreDrafts r.session done.1 drafts places r.draft) where
  abbrev pub new_batch : Batch
  new_batch = stored_batch (record { no = number; bytes = bytes; counts = done.0 })

  abbrev pub put : Tables
  put = batch_put (lines_with_effect changes r.enrolments) drafts new_batch t

  narrow : number ≤ 999999999 → lines_in done.0 ≤ 1048576 → FitsBatch new_batch
  narrow small few =
      (omega (arith, small), omega (arith, few), omega (arith, few), omega (arith, few))

  -- the tables represent the office after the batch
  pub batch_represents : number ≤ 999999999 → lines_in done.0 ≤ 1048576 → TablesRepresentRecords t r
      → TablesRepresentRecords put (records_with_batch number bytes r done)
  batch_represents small few h = record {
    meta = h.meta;
    owner = h.owner;
    enrol = rows_after_batch enrol_rows changes r.enrolments done t.enrol is.enrolled.set accepted
        h.enrol;
    draft = again.rows;
    slot = h.slot;
    published = h.published;
    batches = record {
      same = IsPermutation-cons new_batch _ _ h.batches.same;
      fit = (narrow small few, h.batches.fit);
    };
  }

  -- the tables are sound: the publication and its shares don't change
  pub batch_sound : IsSound t (Some r) → IsSound put (Some (records_with_batch number bytes r done))
  batch_sound h = record { scored = again.scored; shared = h.shared }

-- ---- drafts

-- the rows of drafts in another order
pub drafts_moved : (I : Session) (E : Enrolled) (rows moved : List DraftRow)
    (places : List SlotRow) (draft : ℕ → Option Placing) → IsPermutation rows moved
    → AreDrafts I E rows places draft → AreDrafts I E moved places draft
drafts_moved I E rows moved places draft same h = record {
  numbered = h.numbered;
  fits = h.fits;
  rows = λ d. few_read (λ (x : DraftRow). x.no) _ _ _
      (IsPermutation-filter (λ (x : DraftRow). eqb x.no d) rows moved same) (h.rows d)
      (few_once (is_some (draft d)) d);
  slots = h.slots;
  scored = all-permutation
      (λ row. (T : Placing) → draft row.no ≡ Some T → parts_of row ≡ track I E T) rows moved same
      h.scored;
}
