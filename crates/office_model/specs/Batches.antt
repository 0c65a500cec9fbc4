-- The effect of a batch on the office: its lines act in file order, and a batch acts once.
use Rattle.std.specs.Prelude.{ℕ, Bool, true, false, ◌&&◌, ◌==◌, nat_lt, List, [], ◌∷◌, length, filter, Option, Some, None, Result, Ok, Err}
use Rattle.std.specs.List.{find, list_all}
use Rattle.exam_terms.specs.Refusing.{◌>>=◌, unless}
use Rattle.exam_terms.specs.declared.limits.TheConstants.{MAX_BATCHES}
use Rattle.exam_model.specs.declared.change.Change.{Change}
use Rattle.exam_draft.specs.Edits.{exam_exists}
use Rattle.exam_draft.specs.declared.fault.EditFault.TheVariants.{NoSuch}
use Rattle.office_batches.specs.BatchText.{batch_in}
use Rattle.office_files.specs.declared.fault.FileFault.{FileFault}
use Rattle.office_model.specs.Commands.{CommandResult, renamed_fault, records_or_refusal}
use Rattle.office_model.specs.Office.{OfficeState, Records, KeptBatch}
use Rattle.office_model.specs.declared.counts.Counts.{Counts}
use Rattle.office_model.specs.declared.fault.Refusal.TheVariants as refusal
use Rattle.office_model.specs.declared.fault.StoreFault.TheVariants.{BatchDiffers, TooMany, Refused}
use Rattle.office_model.specs.BatchLines.{no_counts, enrolment_result}

-- ---- batches

-- the batch kept under a number
abbrev pub batch_numbered : ℕ → List KeptBatch → Option KeptBatch
batch_numbered number batches = find (λ b. b.no == number) batches

-- whether two texts are the same bytes
abbrev pub same_bytes : List ℕ → List ℕ → Bool
same_bytes [] [] = true
same_bytes [] (y ∷ ys) = false
same_bytes (x ∷ xs) [] = false
same_bytes (x ∷ xs) (y ∷ ys) = (x == y) && same_bytes xs ys

-- a batch whose number isn't kept
abbrev pub newly_enrolled : ℕ → List ℕ → List Change → Records → CommandResult Counts
newly_enrolled number bytes changes r = do
  _ ← unless (list_all (λ change. exam_exists r.session change.exam) changes)
      (Refused (refusal.Edit NoSuch))
  done ← enrolment_result changes r.enrolments no_counts
  _ ← unless (nat_lt (length r.batches) MAX_BATCHES) TooMany
  Ok (
    done.0,
    Some (record r {
      enrolments = done.1;
      batches = record { no = number; bytes = bytes; counts = done.0 } ∷ r.batches;
    }),
  )

-- a batch whose number is kept has its first counts for the same bytes, and changes nothing
abbrev pub enrolled_by : Option KeptBatch → ℕ → List ℕ → List Change → Records
    → CommandResult Counts
enrolled_by None number bytes changes r = newly_enrolled number bytes changes r
enrolled_by (Some kept) number bytes changes r = do
  _ ← unless (same_bytes kept.bytes bytes) BatchDiffers
  Ok (kept.counts, Some r)

-- a batch is accepted: first the file's fault is judged, then whether a session is loaded
abbrev pub batch_enrolled : ℕ → List ℕ → OfficeState → CommandResult Counts
batch_enrolled number bytes office = do
  changes ← renamed_fault (λ f. Refused (refusal.File f)) (batch_in bytes)
  r ← records_or_refusal office
  enrolled_by (batch_numbered number r.batches) number bytes changes r

-- ---- the students whom a batch changes

-- the lines that name a student
abbrev pub changes_to : ℕ → List Change → List Change
changes_to s changes = filter (λ change. change.student == s) changes

-- the lines of a batch whose number isn't kept
abbrev pub lines_if_new : Option KeptBatch → Result (List Change) FileFault → List Change
lines_if_new None (Ok changes) = changes
lines_if_new None (Err fault) = []
lines_if_new (Some kept) read = []

-- the batch that an office keeps under a number
abbrev pub batch_of_number : OfficeState → ℕ → Option KeptBatch
batch_of_number None number = None
batch_of_number (Some r) number = batch_numbered number r.batches
