-- The fields of a text, each with its place in the text.
use Rattle.std.specs.Prelude.{◌≡◌, ℕ, ◌≤◌, if◌then◌else◌}
use Rattle.std.specs.Prelude.{List, [], ◌∷◌, ◌++◌, map, length, slice_range}
use Rattle.std.specs.List.{flat_map}
use Rattle.office_files.specs.Bytes.{comma}
use Rattle.office_files.specs.Fields.{ended_parts}
use Rattle.office_files.specs.Lines.{Located, pieces_from, trimmed_piece, lines_of, is_header}
use Rattle.office_files.specs.declared.lines.Token.{Token}

-- a token without its place in memory
abbrev pub token_of : Token → Located
token_of t = record { line = t.line; start = t.start; end = t.end; text = t.text.now }

-- the fields on a line, and a header as one
abbrev pub tokens_in : Located → List Located
tokens_in row =
    if is_header row.text then row ∷ []
    else map (trimmed_piece row.line) (pieces_from row.start (ended_parts comma row.text))

-- the fields of a text
abbrev pub tokens_of : List ℕ → List Located
tokens_of text = flat_map tokens_in (lines_of text)

-- the rest of a text: the fields left of a line that was begun, and the lines after it
abbrev pub tokens_left : ℕ → ℕ → List ℕ → List Located → List Located
tokens_left line at fields rows =
    map (trimmed_piece line) (pieces_from at (ended_parts comma fields)) ++ flat_map tokens_in rows

-- the token is that part of the source
pub record IsSliceOf (source : List ℕ) (t : Located) : Type 0 where
  pub rises : t.start ≤ t.end
  pub within : t.end ≤ length source
  pub slice : t.text ≡ slice_range source t.start t.end

-- the tokens are in order, one after another, between two indexes
abbrev pub AreInRow : ℕ → List Located → ℕ → Type 0
AreInRow low [] high = low ≤ high
AreInRow low (t ∷ ts) high = (low ≤ t.start) × (t.start ≤ t.end) × AreInRow t.end ts high
