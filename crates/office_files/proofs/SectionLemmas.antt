-- The number of lines of a text.
use Rattle.std.proofs.Common.{ℕ, ◌≤◌, List, length}
use Rattle.office_files.specs.Lines.{line_count}
use Rattle.office_files.proofs.LineLemmas.{length-parts}

-- a text has at most as many lines as bytes
pub line_count-le : (text : List ℕ) → line_count text ≤ length text
line_count-le text = length-parts 10 text

pub ruleset section_facts = (line_count-le)
