-- The headers of an instance file: how each section begins.
use Rattle.std.specs.Prelude.{ℕ, ◌==◌, nat_lt, List, length, drop, Option, None, Some, Result}
use Rattle.std.specs.Str.{str_eq_ignore_ascii_case}
use Rattle.exam_terms.specs.Refusing.{◌>>=◌, unless, else_err}
use Rattle.exam_terms.specs.Texts.{trimmed_text}
use Rattle.office_files.specs.Bytes.{colon, closing_bracket}
use Rattle.office_files.specs.Fields.{split_once}
use Rattle.office_files.specs.Lines.{is_header}
use Rattle.office_files.specs.Numbers.{number}
use Rattle.office_files.specs.declared.fault.FaultKind.{FaultKind}
use Rattle.office_files.specs.declared.fault.FaultKind.TheVariants.{MissingSection, CountMismatch}
use Rattle.office_files.specs.declared.fault.FaultKind.TheVariants.{OutOfRange, StrayText}

-- the text between a header's brackets, and the text after them
abbrev pub inside_of : List ℕ → Result (List ℕ × List ℕ) FaultKind
inside_of text = do
  _ ← unless (is_header text) MissingSection
  else_err MissingSection (split_once closing_bracket (drop 1 text))

-- the closing bracket is followed by nothing
abbrev pub header_end : List ℕ → Result (Unit {0}) FaultKind
header_end after = unless (length (trimmed_text after) == 0) StrayText

-- a header with only its word
abbrev pub plain_header : List ℕ → List ℕ → Result (Unit {0}) FaultKind
plain_header word text = do
  inside ← inside_of text
  _ ← unless (str_eq_ignore_ascii_case (trimmed_text inside.0) word) MissingSection
  header_end inside.1

-- a header with its word, a colon and the number of its lines, at least one and at most the limit
abbrev pub counted_header : List ℕ → ℕ → ℕ → List ℕ → Result (Unit {0}) FaultKind
counted_header word limit lines text = do
  inside ← inside_of text
  named ← else_err MissingSection (split_once colon inside.0)
  _ ← unless (str_eq_ignore_ascii_case (trimmed_text named.0) word) MissingSection
  count ← number limit (trimmed_text named.1)
  _ ← unless (nat_lt 0 count) OutOfRange
  _ ← unless (count == lines) CountMismatch
  header_end inside.1

-- the start of a section: its word and, if its lines are counted, the limit of their number
pub record Heading : Type 0 where
  pub word : List ℕ
  pub limit : Option ℕ

-- a header by its word and its limit, if it has one
abbrev pub header_by : List ℕ → Option ℕ → ℕ → List ℕ → Result (Unit {0}) FaultKind
header_by word None lines text = plain_header word text
header_by word (Some limit) lines text = counted_header word limit lines text

-- the result of reading a header with this many lines before the next one
abbrev pub header_in : Heading → ℕ → List ℕ → Result (Unit {0}) FaultKind
header_in heading lines text = header_by heading.word heading.limit lines text
