-- The bytes read from an input, and why it has no text.
use Rattle.std.specs.Prelude.{◌≡◌, ◌≢◌, ◌≤◌, ◌<◌, ℕ, List, length, Option, Some, IfSome}
use Rattle.std.specs.Io.KnownBytes.{Consumes}
use Rattle.office_files.specs.declared.fault.FileFault.{FileFault}
use Rattle.office_files.specs.declared.fault.FaultKind.TheVariants as kind
use Rattle.office_files.specs.declared.inputs.Unread.{Unread}
use Rattle.office_files.specs.declared.inputs.Unread.TheVariants as why
use Rattle.office_files.specs.declared.inputs.InputFault.{InputFault}
use Rattle.office_files.specs.declared.inputs.InputFault.TheVariants.{Read, File, NoMemory}

-- at most this many of the known bytes are read from the front
pub record ReadsAtMost (most : ℕ) (old new : Option (List ℕ)) : Type 0 where
  pub bytes : List ℕ
  pub taken : Consumes old new bytes
  pub few : length bytes ≤ most

-- out of memory while a file is read is no fault of the file
abbrev pub IsInputFaultOf : FileFault → InputFault → Type 0
IsInputFaultOf fault Read = ⊥
IsInputFaultOf fault (File f) = (f ≡ fault) × (fault.what ≢ kind.NoMemory)
IsInputFaultOf fault NoMemory = fault.what ≡ kind.NoMemory

-- the fault for a reader's text that is not read whole
abbrev pub IsReadFaultOf : Unread → InputFault → Type 0
IsReadFaultOf why.Failed fault = fault ≡ Read
IsReadFaultOf why.Spent fault = fault ≡ Read
IsReadFaultOf why.TooLong fault = fault ≡ File (record { line = 0; what = kind.TooLong })
IsReadFaultOf why.NoMemory fault = fault ≡ NoMemory

-- why a reader's text is not read whole: with this many reads left, of known bytes
abbrev pub StaysUnread : ℕ → ℕ → Option (List ℕ) → Unread → Type 0
StaysUnread limit left known why.Failed = Unit {0}
StaysUnread limit left known why.Spent = left ≡ 0
StaysUnread limit left known why.TooLong = IfSome known (λ input. limit < length input)
StaysUnread limit left known why.NoMemory = Unit {0}

-- a text that is refused for itself is longer than the limit
abbrev pub RefusesText : ℕ → List ℕ → InputFault → Type 0
RefusesText limit input (File fault) =
    (fault ≡ record { line = 0; what = kind.TooLong }) × (limit < length input)
RefusesText limit input _ = Unit {0}

-- a file's fault is the first one of its text, if there is one
abbrev pub RefusesFile : Option FileFault → InputFault → Type 0
RefusesFile first (File fault) = first ≡ Some fault
RefusesFile first _ = Unit {0}
