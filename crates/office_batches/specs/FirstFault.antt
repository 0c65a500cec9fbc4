-- The fault of each record of a batch by itself, and the first of them.
use Rattle.std.specs.Prelude.{ℕ, ◌+◌, nat_le, if◌then◌else◌, List, [], ◌∷◌, length, Option, None, Some}
use Rattle.exam_terms.specs.declared.limits.TheConstants.{TEXT_BYTES}
use Rattle.office_files.specs.Reading.{fault_of}
use Rattle.office_files.specs.FirstFault.{at_line_or}
use Rattle.office_files.specs.declared.fault.FaultKind.TheVariants.{TooLong, BadHeader}
use Rattle.office_files.specs.declared.fault.FileFault.{FileFault}
use Rattle.office_batches.specs.Records.{Record, change_in, is_header}
use Rattle.office_batches.specs.BatchText.{records_in}

-- the first fault of records of changes, from this number on
abbrev pub first_from : ℕ → List Record → Option FileFault
first_from line [] = None
first_from line (fields ∷ others) =
    at_line_or line (fault_of (change_in fields)) (first_from (line + 1) others)

-- the first fault of all records, the first of which names the columns
abbrev pub first_of : List Record → Option FileFault
first_of [] = Some (record { line = 1; what = BadHeader })
first_of (fields ∷ others) =
    at_line_or 1 (if is_header fields then None else Some BadHeader) (first_from 2 others)

-- the first fault of a batch, if it has one
abbrev pub first_batch_fault : List ℕ → Option FileFault
first_batch_fault b =
    if nat_le (length b) TEXT_BYTES then first_of (records_in b)
    else Some (record { line = 0; what = TooLong })
