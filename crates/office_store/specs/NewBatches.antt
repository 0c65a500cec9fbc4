-- The writes of an accepted batch.
use Rattle.std.specs.Prelude.{◌≡◌, ◌≢◌, ◌<◌, ℕ, if◌then◌else◌, List, [], ◌∷◌, length, map, reverse, Option, option_to_list, Result, Ok, Err}
use Rattle.exam_terms.specs.Refusing.{◌>>=◌, unless}
use Rattle.exam_terms.specs.declared.limits.TheConstants.{MAX_BATCHES}
use Rattle.exam_model.specs.Enrolments.{Enrolled}
use Rattle.exam_model.specs.declared.change.Change.{Change}
use Rattle.office_tables.specs.Tables.{with_enrol, without_enrol, Tables}
use Rattle.office_tables.specs.Tables.Batches.{batch_from, Batch}
use Rattle.office_tables.specs.declared.tables.batch.BatchRow.{BatchRow}
use Rattle.office_tables.specs.declared.tables.draft.DraftRow.{DraftRow}
use Rattle.office_tables.specs.declared.tables.slot.SlotRow.{SlotRow}
use Rattle.office_enrolment.specs.AfterBatch.{lines_with_effect, after_batch, current_enrolments}
use Rattle.office_enrolment.specs.Rows.{pair_of}
use Rattle.office_model.specs.Batches.{newly_enrolled, same_bytes}
use Rattle.office_model.specs.Office.{KeptBatch, Records}
use Rattle.office_model.specs.declared.counts.Counts.{Counts}
use Rattle.office_model.specs.declared.fault.StoreFault.{StoreFault}
use Rattle.office_model.specs.declared.fault.StoreFault.TheVariants.{BatchDiffers}
use Rattle.office_records.specs.BatchRows.{batch_put}
use Rattle.office_records.specs.Found.{AreDrafts}
use Rattle.office_records.specs.TableRows.{enrol_row, stored_batch}
use Rattle.office_store.specs.Running.{IsFault}
use Rattle.office_store.specs.declared.new_batch.NewBatch.{NewBatch}
use Rattle.office_store.specs.declared.new_batch.LineWrite.{LineWrite}

-- the tables after a line's row is inserted or deleted
abbrev pub with_line : Change → Tables → Tables
with_line change t =
    if change.add then with_enrol (enrol_row (pair_of change)) t
    else without_enrol change.student change.exam t

-- a line as a part of a transaction
abbrev pub line_write : Change → LineWrite
line_write change = record { change = change }

-- the student of each line
abbrev pub students_of : List Change → List ℕ
students_of lines = map (λ line. line.student) lines

-- these rows are an office's drafts with other enrolments
pub record AreDraftsWith (r : Records) (E : Enrolled) (drafts : List DraftRow) : Type 0 where
  pub slots : List SlotRow
  pub are : AreDrafts r.session E drafts slots r.draft

-- the batch makes these enrolments of an office's, with the lines that act and, if there are any,
-- the rows of all drafts with the enrolments after them; there is room for one batch more
pub record IsNewFor (changes : List Change) (r : Records) (new : NewBatch) : Type 0 where
  pub after : after_batch changes r.enrolments
      ≡ Ok (new.counts, current_enrolments new.enrolments r.enrolments)
  pub room : length r.batches < MAX_BATCHES
  pub lines : map (λ it. it.change) new.lines.items ≡ lines_with_effect changes r.enrolments
  pub drafts : new.lines.items ≢ []
      → AreDraftsWith r (current_enrolments new.enrolments r.enrolments)
      (map (λ it. it.row) new.drafts.items)

-- the writes of such a batch, or its refusal, whatever its number and its bytes
abbrev pub Enrols : List Change → Records → Result NewBatch StoreFault → Type 0
Enrols changes r (Ok new) = IsNewFor changes r new
Enrols changes r (Err fault) =
    (number : ℕ) (bytes : List ℕ) → IsFault (newly_enrolled number bytes changes r) fault

-- the row of a kept batch, if there is one
abbrev pub IsRowOf : Option KeptBatch → Option BatchRow → Type 0
IsRowOf kept found =
    map batch_from (option_to_list found) ≡ map stored_batch (option_to_list kept)

-- the rows of the drafts after such lines: new ones, or, if no line acts, the old ones
abbrev pub drafts_after : List LineWrite → List DraftRow → List DraftRow → List DraftRow
drafts_after [] new_rows rows = rows
drafts_after (line ∷ lines) new_rows rows = reverse new_rows

-- the tables after the acting lines, the drafts and the batch are written
abbrev pub new_batch_put : ℕ → List ℕ → NewBatch → Tables → Tables
new_batch_put number bytes new t =
    batch_put (map (λ it. it.change) new.lines.items)
    (drafts_after new.lines.items (map (λ it. it.row) new.drafts.items) t.draft)
    (stored_batch (record { no = number; bytes = bytes; counts = new.counts })) t

-- the first counts of a kept batch, if it has these bytes
abbrev pub first_counts : Batch → List ℕ → Result Counts StoreFault
first_counts b bytes = do
  _ ← unless (same_bytes b.bytes bytes) BatchDiffers
  Ok (record { added = b.added; dropped = b.dropped; unchanged = b.unchanged })
