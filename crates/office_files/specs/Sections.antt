-- The sections of an instance file: a header, and the lines up to the next one.
use Rattle.std.specs.Prelude.{◌≡◌, ℕ, true, false, List, [], ◌∷◌, ◌++◌, length, take, drop, All}
use Rattle.std.specs.Prelude.{Result, Ok, Err}
use Rattle.exam_terms.specs.Refusing.{◌>>=◌}
use Rattle.office_files.specs.Lines.{Located, is_header, section_size}
use Rattle.office_files.specs.Reading.{at_line, items_of, Spell}
use Rattle.office_files.specs.Headers.{Heading, header_in}
use Rattle.office_files.specs.declared.fault.FaultKind.{FaultKind}
use Rattle.office_files.specs.declared.fault.FaultKind.TheVariants.{MissingSection}
use Rattle.office_files.specs.declared.fault.FileFault.{FileFault}

-- the next section's items, and the lines after it; if there is no section, the fault is after the
-- last line
abbrev pub section_in : {A : Type 0} → Heading
    → (List A → List (List ℕ) → Result A FaultKind) → ℕ → List Located
    → Result (List A × List Located) FileFault
section_in heading read end [] = Err (record { line = end; what = MissingSection })
section_in heading read end (line ∷ lines) =
    at_line line.line (header_in heading (section_size lines) line.text) >>= λ _.
    items_of read [] (take (section_size lines) lines) >>= λ items.
    Ok (items, drop (section_size lines) lines)

-- the lines after the header of the next section, if it is such a header
abbrev pub lines_after_header : Heading → ℕ → List Located → Result (List Located) FileFault
lines_after_header heading end [] = Err (record { line = end; what = MissingSection })
lines_after_header heading end (line ∷ lines) =
    at_line line.line (header_in heading (section_size lines) line.text) >>= λ _. Ok lines

-- no line is left, or the first of them is a header
abbrev pub AtHeader : List Located → Type 0
AtHeader [] = Unit {0}
AtHeader (line ∷ lines) = is_header line.text ≡ true

-- lines begin with a section of these items, followed by the other lines
pub record IsSection {A : Type 0} (heading : Heading)
    (read : List A → List (List ℕ) → Result A FaultKind) (lines : List Located) (items : List A)
    (after : List Located) : Type 0 where
  pub header : Located
  pub body : List Located
  pub cut : lines ≡ header ∷ (body ++ after)
  pub headed : header_in heading (length body) header.text ≡ Ok tt
  pub no_header : All (λ line. is_header line.text ≡ false) body
  pub up_to : AtHeader after
  pub spelled : Spell read body items
