-- The records of a batch, field by field: the columns, and the change of a record.
use Rattle.std.specs.Prelude.{ℕ, ◌-◌, Bool, true, false, ◌&&◌, ◌||◌, ◌==◌, nat_le, if◌then◌else◌}
use Rattle.std.specs.Prelude.{List, [], length, codes, slice_index_or, Result, Ok, Err}
use Rattle.std.specs.Str.{str_eq_ignore_ascii_case}
use Rattle.exam_terms.specs.declared.limits.TheConstants.{MAX_EXAMS, MAX_STUDENT}
use Rattle.exam_terms.specs.Refusing.{◌>>=◌, unless}
use Rattle.exam_model.specs.declared.change.Change.{Change}
use Rattle.exam_terms.specs.Texts.{trimmed_text}
use Rattle.office_files.specs.Numbers.{number}
use Rattle.office_files.specs.declared.fault.FaultKind.{FaultKind}
use Rattle.office_files.specs.declared.fault.FaultKind.TheVariants.{BadWord, StrayText}

-- a record, field by field
abbrev pub Record : Type 0
Record = List (List ℕ)

-- a field of a record, trimmed; empty if the record has no such field
abbrev pub field : Record → ℕ → List ℕ
field fields i = trimmed_text (slice_index_or fields i [])

-- whether a field is this word, in lower or upper case
abbrev pub has_word : Record → ℕ → List ℕ → Bool
has_word fields i word = str_eq_ignore_ascii_case (field fields i) word

-- whether the record has three fields, or four of which the last is empty
abbrev pub has_three : Record → Bool
has_three fields =
    nat_le (length fields) 3 || ((length fields == 4) && (length (field fields 3) == 0))

-- whether a record names the columns
abbrev pub is_header : Record → Bool
is_header fields =
    has_word fields 0 (codes "student") && (has_word fields 1 (codes "exam")
    && (has_word fields 2 (codes "action") && has_three fields))

-- whether the student is added, by a field
abbrev pub action : Record → Result Bool FaultKind
action fields =
    if has_word fields 2 (codes "add") then Ok true
    else (if has_word fields 2 (codes "drop") then Ok false else Err BadWord)

-- the change of a record: the student, the exam, and the action
abbrev pub change_in : Record → Result Change FaultKind
change_in fields = do
  student ← number MAX_STUDENT (field fields 0)
  exam ← number (MAX_EXAMS - 1) (field fields 1)
  add ← action fields
  _ ← unless (has_three fields) StrayText
  Ok (record { student = student; exam = exam; add = add })
