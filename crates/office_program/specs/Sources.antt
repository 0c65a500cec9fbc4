-- What the paths in the words name, and what is known of it.
use Rattle.std.specs.Prelude.{◌≡◌, Bool, List, None, Option, Some, codes, count_by, false, if◌then◌else◌, nat_lt, option_map, ℕ}
use Rattle.std.specs.Str.{bytes_eq}
use Rattle.exam_model.specs.Enrolments.{Enrolled}
use Rattle.exam_model.specs.Instance.{Session}
use Rattle.exam_model.specs.Timetable.{Placing}
use Rattle.office_check.specs.Check.{OfTexts}

-- the path means standard input
abbrev pub is_stdin : List ℕ → Bool
is_stdin path = bytes_eq path (codes "-")

-- the path doesn't mean standard input
abbrev pub IsFile : List ℕ → Type 0
IsFile path = is_stdin path ≡ false

-- what is known of the file of a path: nothing; that it can't be opened; or its bytes
abbrev pub Known : Type 0
Known = Option (Option (List ℕ))

-- what is known of the file that a path names, `-` being standard input
abbrev pub source_at : Option (List ℕ) → (List ℕ → Known) → List ℕ → Known
source_at stdin files path = if is_stdin path then option_map Some stdin else files path

-- the file can be opened, and has this text, as far as is known
abbrev pub IsTextOf : Known → List ℕ → Type 0
IsTextOf None text = Unit {0}
IsTextOf (Some None) text = ⊥
IsTextOf (Some (Some known)) text = known ≡ text

-- the file can be opened, and a reader has these bytes of it left, as far as is known
abbrev pub IsReaderOf : Known → Option (List ℕ) → Type 0
IsReaderOf None left = Unit {0}
IsReaderOf (Some None) left = ⊥
IsReaderOf (Some (Some known)) left = left ≡ Some known

-- the file's bytes aren't known: it may not open, or a read of it may fail
abbrev pub MayNotOpen : Known → Type 0
MayNotOpen None = Unit {0}
MayNotOpen (Some None) = Unit {0}
MayNotOpen (Some (Some known)) = ⊥

-- texts of the two files have a reading, of which this holds
pub record OfFiles (first second : Known) (P : Session → Enrolled → Placing → Type 0)
    : Type 0 where
  pub instance : List ℕ
  pub solution : List ℕ
  pub of_first : IsTextOf first instance
  pub of_second : IsTextOf second solution
  pub texts : OfTexts instance solution P

-- texts of the three files are so
pub record OfThreeFiles (first second third : Known) (Are : (one two three : List ℕ) → Type 0)
    : Type 0 where
  pub one : List ℕ
  pub two : List ℕ
  pub three : List ℕ
  pub of_first : IsTextOf first one
  pub of_second : IsTextOf second two
  pub of_third : IsTextOf third three
  pub are : Are one two three

-- more than one of the paths mean standard input, which can be read once
abbrev pub is_stdin_shared : List (List ℕ) → Bool
is_stdin_shared paths = nat_lt 1 (count_by is_stdin paths)
