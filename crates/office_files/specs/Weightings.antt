-- The weightings of the last section (ITC 2007, institutional weightings, and nights).
use Rattle.std.specs.Prelude.{ℕ, Bool, true, false, not, if◌then◌else◌, List, codes, Result, Ok}
use Rattle.std.specs.Prelude.{Err}
use Rattle.std.specs.List.{list_any}
use Rattle.std.specs.Str.{str_eq_ignore_ascii_case}
use Rattle.exam_terms.specs.declared.limits.TheConstants.{MAX_AMOUNT}
use Rattle.exam_terms.specs.Refusing.{◌>>=◌, unless}
use Rattle.office_files.specs.Fields.{first_field, other_fields, end_of_fields}
use Rattle.office_files.specs.Numbers.{number}
use Rattle.office_files.specs.declared.counts.Counts.{Counts}
use Rattle.office_files.specs.declared.weightings.Weighting.{Weighting}
use Rattle.office_files.specs.declared.weightings.Weighting.TheVariants as said
use Rattle.office_files.specs.declared.weightings.WeightWord.{WeightWord}
use Rattle.office_files.specs.declared.weightings.WeightWord.TheVariants as word
use Rattle.office_files.specs.declared.fault.FaultKind.{FaultKind}
use Rattle.office_files.specs.declared.fault.FaultKind.TheVariants.{BadWord, Repeated}

-- the word of a weighting line
abbrev pub weight_word : List ℕ → Result WeightWord FaultKind
weight_word text =
    if str_eq_ignore_ascii_case text (codes "TWOINAROW") then Ok word.Row
    else (if str_eq_ignore_ascii_case text (codes "TWOINADAY") then Ok word.Day
    else (if str_eq_ignore_ascii_case text (codes "PERIODSPREAD") then Ok word.Spread
    else (if str_eq_ignore_ascii_case text (codes "NONMIXEDDURATIONS") then Ok word.Mixed
    else (if str_eq_ignore_ascii_case text (codes "FRONTLOAD") then Ok word.Front
    else (if str_eq_ignore_ascii_case text (codes "OVERNIGHT") then Ok word.Night
    else Err BadWord)))))

-- whether a weighting has this word
abbrev pub has_word : WeightWord → Weighting → Bool
has_word word.Row (said.Row n) = true
has_word word.Day (said.Day n) = true
has_word word.Spread (said.Spread n) = true
has_word word.Mixed (said.Mixed n) = true
has_word word.Front (said.Front n k w) = true
has_word word.Night (said.Night n) = true
has_word _ _ = false

-- one number after a word
abbrev pub amount_in : List (List ℕ) → Result ℕ FaultKind
amount_in fields = do
  amount ← number MAX_AMOUNT (first_field fields)
  _ ← end_of_fields (other_fields fields)
  Ok amount

-- how many exams, how many periods, what weight
abbrev pub front_in : List (List ℕ) → Result Weighting FaultKind
front_in fields = do
  exams ← number MAX_AMOUNT (first_field fields)
  periods ← number MAX_AMOUNT (first_field (other_fields fields))
  weight ← number MAX_AMOUNT (first_field (other_fields (other_fields fields)))
  _ ← end_of_fields (other_fields (other_fields (other_fields fields)))
  Ok (said.Front exams periods weight)

-- the weighting of the numbers after a word
abbrev pub weighting_by : WeightWord → List (List ℕ) → Result Weighting FaultKind
weighting_by word.Row fields = amount_in fields >>= λ n. Ok (said.Row n)
weighting_by word.Day fields = amount_in fields >>= λ n. Ok (said.Day n)
weighting_by word.Spread fields = amount_in fields >>= λ n. Ok (said.Spread n)
weighting_by word.Mixed fields = amount_in fields >>= λ n. Ok (said.Mixed n)
weighting_by word.Front fields = front_in fields
weighting_by word.Night fields = amount_in fields >>= λ n. Ok (said.Night n)

-- a line of the section of weightings: a word that no earlier line has, and its numbers
abbrev pub weighting_line : Counts → List Weighting → List (List ℕ) → Result Weighting FaultKind
weighting_line counts before fields = do
  word ← weight_word (first_field fields)
  _ ← unless (not (list_any (has_word word) before)) Repeated
  weighting_by word (other_fields fields)
