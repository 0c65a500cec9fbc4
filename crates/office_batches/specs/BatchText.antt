-- The changes that a batch describes, and its first fault: records of comma-separated values, the
-- first of which names the columns.
use Rattle.std.specs.Prelude.{◌≡◌, ◌≤◌, ℕ, ◌+◌, true, ◌==◌, nat_le, if◌then◌else◌, List, [], ◌∷◌}
use Rattle.std.specs.Prelude.{◌++◌, length, map, Result, Ok}
use Rattle.exam_terms.specs.declared.limits.TheConstants.{TEXT_BYTES}
use Rattle.csv.specs.Reading.{default_config, records, strip_bom}
use Rattle.exam_terms.specs.Refusing.{◌>>=◌, unless}
use Rattle.exam_model.specs.declared.change.Change.{Change}
use Rattle.office_files.specs.Reading.{at_line}
use Rattle.office_files.specs.declared.fault.FaultKind.{FaultKind}
use Rattle.office_files.specs.declared.fault.FaultKind.TheVariants.{TooLong, BadHeader}
use Rattle.office_files.specs.declared.fault.FileFault.{FileFault}
use Rattle.office_batches.specs.Records.{Record, is_header, change_in}

-- the changes with one more record: the first record names the columns, each other is a change
abbrev pub with_record : ℕ → List Change → Record → Result (List Change) FaultKind
with_record line before fields =
    if line == 1 then (unless (is_header fields) BadHeader >>= λ _. Ok before)
    else (change_in fields >>= λ change. Ok (before ++ change ∷ []))

-- the changes of records from this number on, after those before them, or the first fault; a batch
-- without a record has no header
abbrev pub changes_from : ℕ → List Change → List Record → Result (List Change) FileFault
changes_from line before [] =
    at_line 1 (unless (nat_le 2 line) BadHeader) >>= λ _. Ok before
changes_from line before (fields ∷ others) =
    at_line line (with_record line before fields) >>= λ now. changes_from (line + 1) now others

-- the records of a text, without a byte order mark
abbrev pub records_in : List ℕ → List Record
records_in b = records default_config (strip_bom b)

-- the reading of a batch: the changes in the text, or its first fault
abbrev pub batch_in : List ℕ → Result (List Change) FileFault
batch_in b = do
  _ ← at_line 0 (unless (nat_le (length b) TEXT_BYTES) TooLong)
  changes_from 1 [] (records_in b)

-- a text within the limit of bytes describes changes: its first record names the columns, and each
-- other record is a change
pub record BatchText (b : List ℕ) (changes : List Change) : Type 0 where
  pub within : length b ≤ TEXT_BYTES
  pub header : Record
  pub others : List Record
  pub records : records_in b ≡ header ∷ others
  pub columns : is_header header ≡ true
  pub say : map change_in others ≡ map Ok changes
