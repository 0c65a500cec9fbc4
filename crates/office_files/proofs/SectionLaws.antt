-- A section that was read is a section of the text, and such a section is read.
use Rattle.std.proofs.lemmas.Grind.{common_steps}
use Rattle.std.proofs.Common.{◌≡◌, ℕ, suc, ◌≤◌, false, List, [], ◌∷◌, ◌++◌, length, take, drop, Some, Result, Ok, refl, ap, arith, add-one, inl, inr}
use Rattle.std.specs.Prelude.{All}
use Rattle.std.proofs.lemmas.Bool.{cases_Bool, ltb-true, eqb-true}
use Rattle.std.proofs.lemmas.List.{take-append-drop, take_at, drop_at}
use Rattle.std.proofs.lemmas.List.Elements.{All-nil, All-cons, All-head, All-tail}
use Rattle.exam_lists.proofs.Results.{same_pair}
use Rattle.office_files.specs.Lines.{Located, is_header, section_size}
use Rattle.office_files.specs.Reading.{items_of}
use Rattle.office_files.specs.Headers.{Heading, header_in, counted_header}
use Rattle.office_files.specs.Sections.{section_in, AtHeader, IsSection}
use Rattle.office_files.specs.declared.fault.FaultKind.{FaultKind}
use Rattle.office_files.proofs.LineLemmas.{size_head, size_line}
use Rattle.office_files.proofs.ReadingLaws.{bind_ok, at_line_ok, ok_at_line, unless_ok, number_le, items_spelled, spelled_items}

-- a line that is no header
abbrev NoHeader : Located → Type 0
NoHeader line = is_header line.text ≡ false

-- this is the number of lines before the next header
length-size : (rows : List Located) → length (take (section_size rows) rows) ≡ section_size rows
length-size [] = refl
length-size (row ∷ rows) = elim (cases_Bool (is_header row.text)) [
  | inl e ↦ rw (size_head row rows e) refl
  | inr e ↦ rw (size_line row rows e, add-one (section_size rows)) (ap suc (length-size rows))
]

-- none of them is a header
no_header-size : (rows : List Located) → All NoHeader (take (section_size rows) rows)
no_header-size [] = All-nil NoHeader
no_header-size (row ∷ rows) = elim (cases_Bool (is_header row.text)) [
  | inl e ↦ rw (size_head row rows e) (All-nil NoHeader)
  | inr e ↦ rw (size_line row rows e, add-one (section_size rows))
      (All-cons NoHeader row (take (section_size rows) rows) e (no_header-size rows))
]

-- they are followed by a header, or by nothing
at_header-size : (rows : List Located) → AtHeader (drop (section_size rows) rows)
at_header-size [] = tt
at_header-size (row ∷ rows) = elim (cases_Bool (is_header row.text)) [
  | inl e ↦ rw (size_head row rows e) e
  | inr e ↦ rw (size_line row rows e, add-one (section_size rows)) (at_header-size rows)
]

size-after : (after : List Located) → AtHeader after → section_size after ≡ 0
size-after [] at = refl
size-after (line ∷ lines) at = size_head line lines at

-- lines that are no headers, up to one, are those before the next header
size-body : (body after : List Located) → All NoHeader body → AtHeader after →
    section_size (body ++ after) ≡ length body
size-body [] after none at = size-after after at
size-body (line ∷ body) after none at =
    let other = size_line line (body ++ after) (All-head NoHeader line body none) in
    let others = size-body body after (All-tail NoHeader line body none) at in
    rw (other, others) (add-one (length body))

-- a header with a number has that of the lines, from one to the limit
counted_lines : (word : List ℕ) (limit lines : ℕ) (text : List ℕ) →
    counted_header word limit lines text ≡ Ok tt → (1 ≤ lines) × (lines ≤ limit)
counted_lines word limit lines text e =
    grind (arith, common_steps, bind_ok, eqb-true, ltb-true, number_le, unless_ok)

module _ {A : Type 0} (heading : Heading) (read : List A → List (List ℕ) → Result A FaultKind) where
  section_read : (line : Located) (lines : List Located) (items : List A) →
      header_in heading (section_size lines) line.text ≡ Ok tt →
      items_of read [] (take (section_size lines) lines) ≡ Ok items →
      IsSection heading read (line ∷ lines) items (drop (section_size lines) lines)
  section_read line lines items headed e = record {
    header = line;
    body = take (section_size lines) lines;
    cut = rw take-append-drop refl;
    headed = rw (length-size lines) headed;
    no_header = no_header-size lines;
    up_to = at_header-size lines;
    spelled = items_spelled read (take (section_size lines) lines) items e;
  }

  -- a section that was read is one
  pub section_is : (end : ℕ) (lines : List Located) (items : List A) (after : List Located) →
      section_in heading read end lines ≡ Ok (items, after) →
      IsSection heading read lines items after
  section_is end [] items after e = cc
  section_is end (line ∷ lines) items after e =
      grind (arith, common_steps, at_line_ok, bind_ok, same_pair, section_read)

  -- a section that is there is read
  pub is_section : (end : ℕ) (lines : List Located) (items : List A) (after : List Located) →
      IsSection heading read lines items after →
      section_in heading read end lines ≡ Ok (items, after)
  is_section end lines items after s =
      grind (arith, common_steps, drop_at, ok_at_line, size-body, spelled_items, take_at)

  -- a section with a number has at least one item, and at most its limit
  pub counted_section : (limit : ℕ) (lines : List Located) (items : List A)
      (after : List Located) →
      heading.limit ≡ Some limit → IsSection heading read lines items after →
      (1 ≤ length items) × (length items ≤ limit)
  counted_section limit lines items after limited s = grind (arith, common_steps, counted_lines)
