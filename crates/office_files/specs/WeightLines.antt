-- The weights in the last section of a text (ITC 2007, institutional weightings, and nights).
use Rattle.std.specs.Prelude.{◌≡◌, ℕ, zero, suc, Bool, true, false, if◌then◌else◌}
use Rattle.std.specs.Prelude.{List, [], ◌∷◌, codes, All, AllPairs, Result, Ok}
use Rattle.std.specs.List.{list_any}
use Rattle.std.specs.Str.{str_eq_ignore_ascii_case}
use Rattle.exam_terms.specs.declared.limits.TheConstants.{MAX_AMOUNT}
use Rattle.exam_model.specs.declared.parts.Weights.{Weights}
use Rattle.office_files.specs.Fields.{fields_of, first_field, other_fields}
use Rattle.office_files.specs.Lines.{Located, is_header}
use Rattle.office_files.specs.Numbers.{number}
use Rattle.office_files.specs.declared.fault.FaultKind.{FaultKind}

-- the lines after the last header among these; all of them if none is a header
abbrev pub last_section : List Located → List Located
last_section [] = []
last_section (line ∷ lines) =
    if list_any (λ other. is_header other.text) lines then last_section lines
    else (if is_header line.text then lines else line ∷ lines)

-- the field after this many others; empty if there are too few
abbrev pub field_after : ℕ → List (List ℕ) → List ℕ
field_after zero fields = first_field fields
field_after (suc n) fields = field_after n (other_fields fields)

-- whether the first field of a line is this word, in large or small letters
abbrev pub begins_with : List ℕ → Located → Bool
begins_with word line = str_eq_ignore_ascii_case (first_field (fields_of line.text)) word

-- the number in the field of a line after this many others
abbrev pub number_after : ℕ → Located → Result ℕ FaultKind
number_after before line = number MAX_AMOUNT (field_after before (fields_of line.text))

-- the number of a word in a section: at most one line begins with the word, and it has this number
-- after that many fields; if no line begins with it, the number is 0
pub record HasAmount (section : List Located) (word : List ℕ) (before amount : ℕ) : Type 0 where
  pub once : AllPairs (λ line other. begins_with word line ≡ true
      → begins_with word other ≡ false) section
  pub said : All (λ line. begins_with word line ≡ true
      → number_after before line ≡ Ok amount) section
  pub unsaid : All (λ line. begins_with word line ≡ false) section → amount ≡ 0

-- each weight is the number after its word in the section; the word of the front load is followed
-- by how many exams are large, how many periods are late, and their weight
pub record Weighs (section : List Located) (w : Weights) : Type 0 where
  pub row : HasAmount section (codes "TWOINAROW") 1 w.row
  pub day : HasAmount section (codes "TWOINADAY") 1 w.day
  pub spread : HasAmount section (codes "PERIODSPREAD") 1 w.spread
  pub mixed : HasAmount section (codes "NONMIXEDDURATIONS") 1 w.mixed
  pub front_exams : HasAmount section (codes "FRONTLOAD") 1 w.front_exams
  pub front_periods : HasAmount section (codes "FRONTLOAD") 2 w.front_periods
  pub front : HasAmount section (codes "FRONTLOAD") 3 w.front
  pub night : HasAmount section (codes "OVERNIGHT") 1 w.night
