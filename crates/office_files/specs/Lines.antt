-- The lines of a text that aren't blank, each with its place in the text.
use Rattle.std.specs.Prelude.{ℕ, ◌+◌, ◌-◌, ◌<◌, ◌≤◌, Bool, false, ◌==◌, if◌then◌else◌}
use Rattle.std.specs.Prelude.{List, [], ◌∷◌, length}
use Rattle.exam_terms.specs.declared.limits.TheConstants.{INSTANCE_BYTES}
use Rattle.exam_terms.specs.Texts.{trim_start, trimmed_text}
use Rattle.office_files.specs.Bytes.{line_feed, carriage_return, opening_bracket}
use Rattle.office_files.specs.Fields.{ended_parts}

-- the number of lines of a text; there is none after a line feed at its end
abbrev pub line_count : List ℕ → ℕ
line_count text = length (ended_parts line_feed text)

-- a part of a text, and the index of its start
pub record Piece : Type 0 where
  pub start : ℕ
  pub text : List ℕ

-- the parts that were cut at one byte each, in their places from `start` on
abbrev pub pieces_from : ℕ → List (List ℕ) → List Piece
pieces_from start [] = []
pieces_from start (x ∷ xs) =
    record { start = start; text = x } ∷ pieces_from (start + length x + 1) xs

-- one carriage return at the end is dropped
abbrev pub without_return : List ℕ → List ℕ
without_return [] = []
without_return (b ∷ []) = if b == carriage_return then [] else b ∷ []
without_return (b ∷ c ∷ cs) = b ∷ without_return (c ∷ cs)

-- the text of a line of the file, or of a field in it, and the indexes of its start and its end
pub record Located : Type 0 where
  pub line : ℕ
  pub start : ℕ
  pub end : ℕ
  pub text : List ℕ

-- the start of a piece without the blanks before it
abbrev pub inner_start : Piece → ℕ
inner_start p = p.start + (length p.text - length (trim_start p.text))

-- a piece of a line without the blanks around it
abbrev pub trimmed_piece : ℕ → Piece → Located
trimmed_piece line p = record {
  line = line;
  start = inner_start p;
  end = inner_start p + length (trimmed_text p.text);
  text = trimmed_text p.text;
}

-- a line in front of others, unless it is blank
abbrev pub unless_blank : Located → List Located → List Located
unless_blank row rows = if length row.text == 0 then rows else row ∷ rows

-- the lines that aren't blank, counted from `line` on
abbrev pub lines_from : ℕ → List Piece → List Located
lines_from line [] = []
lines_from line (p ∷ ps) =
    unless_blank (trimmed_piece line (record p { text = without_return p.text }))
    (lines_from (line + 1) ps)

-- the lines of a text that aren't blank, counted from 1
abbrev pub lines_of : List ℕ → List Located
lines_of text = lines_from 1 (pieces_from 0 (ended_parts line_feed text))

-- a header begins with an opening bracket
abbrev pub is_header : List ℕ → Bool
is_header [] = false
is_header (b ∷ bs) = b == opening_bracket

-- the number of lines before the next header
abbrev pub section_size : List Located → ℕ
section_size [] = 0
section_size (row ∷ rows) = if is_header row.text then 0 else section_size rows + 1

-- the index and the line of the rest of a text are within their limit
pub record HasPlaces (line at : ℕ) (left : List ℕ) : Type 0 where
  pub at_most : at ≤ INSTANCE_BYTES + 1
  pub within : 0 < length left → at + length left ≤ INSTANCE_BYTES
  pub lines : line + length left ≤ INSTANCE_BYTES + 1
