-- How lines are read one after another: each by its fields and the items of the lines before it.
use Rattle.std.specs.Prelude.{◌≡◌, ◌≢◌, ℕ, List, [], ◌∷◌, ◌++◌, length, take, slice_get, Some}
use Rattle.std.specs.Prelude.{Result, Ok, Err, Option, None}
use Rattle.exam_terms.specs.Refusing.{◌>>=◌}
use Rattle.office_files.specs.Fields.{fields_of}
use Rattle.office_files.specs.Lines.{Located}
use Rattle.office_files.specs.declared.fault.FaultKind.{FaultKind}
use Rattle.office_files.specs.declared.fault.FaultKind.TheVariants.{NoMemory}
use Rattle.office_files.specs.declared.fault.FileFault.{FileFault}

-- the result of a line; its fault gets the line's number
abbrev pub at_line : {A : Type 0} → ℕ → Result A FaultKind → Result A FileFault
at_line line (Ok x) = Ok x
at_line line (Err what) = Err (record { line = line; what = what })

-- the items of lines after those before them, or the fault of the first faulty line
abbrev pub items_of : {A : Type 0} → (List A → List (List ℕ) → Result A FaultKind) → List A
    → List Located → Result (List A) FileFault
items_of read before [] = Ok before
items_of read before (line ∷ lines) =
    at_line line.line (read before (fields_of line.text)) >>= λ item.
    items_of read (before ++ item ∷ []) lines

-- there are as many items as lines, and each line describes its item, after those of the lines
-- before it
pub record Spell {A : Type 0} (read : List A → List (List ℕ) → Result A FaultKind)
    (lines : List Located) (items : List A) : Type 0 where
  pub as_many : length items ≡ length lines
  pub each : (i : ℕ) (line : Located) (item : A) → slice_get lines i ≡ Some line
      → slice_get items i ≡ Some item → read (take i items) (fields_of line.text) ≡ Ok item

-- a call returns the result of the reading
abbrev pub AnswersField : {X Y : Type 0} → (X → Y) → Result X FaultKind → Result Y FaultKind
    → Type 0
AnswersField view (Ok x) reading = reading ≡ Ok (view x)
AnswersField view (Err what) reading = reading ≡ Err what

-- the same, unless memory ran out
abbrev pub AnswersReading : {X Y : Type 0} → (X → Y) → Result X FileFault → Result Y FileFault
    → Type 0
AnswersReading view (Ok x) reading = reading ≡ Ok (view x)
AnswersReading view (Err fault) reading = fault.what ≢ NoMemory → reading ≡ Err fault

-- the fault of a reading, if it has one
abbrev pub fault_of : {A F : Type 0} → Result A F → Option F
fault_of (Ok x) = None
fault_of (Err what) = Some what

-- the fault of a line after these items, if the lines before it have no fault
abbrev pub fault_by : {A : Type 0} → (List A → List (List ℕ) → Result A FaultKind)
    → Result (List A) FileFault → Located → Option FaultKind
fault_by read (Ok items) line = fault_of (read items (fields_of line.text))
fault_by read (Err fault) line = None

-- the fault of a line by the lines before it in its section
abbrev pub fault_after_lines : {A : Type 0} → (List A → List (List ℕ) → Result A FaultKind)
    → List Located → Located → Option FaultKind
fault_after_lines read before line = fault_by read (items_of read [] before) line
