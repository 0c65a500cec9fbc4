-- The fault of a reading of several lines: that of the first faulty line.
use Rattle.std.proofs.lemmas.Grind.{common_steps}
use Rattle.std.proofs.Common.{◌≡◌, ℕ, ◌+◌, true, false, List, [], ◌∷◌, ◌++◌, length, take, drop, arith}
use Rattle.std.proofs.Common.{Option, Some, None, Result, Ok, Err, refl, sym, ◌∙◌, add-one, inl}
use Rattle.std.proofs.Common.{inr}
use Rattle.std.specs.Prelude.{if◌then◌else◌, nat_lt, ◌==◌}
use Rattle.std.proofs.lemmas.Bool.{cases_Bool}
use Rattle.std.proofs.lemmas.List.{append-nil, append_assoc, length-append}
use Rattle.exam_terms.specs.Refusing.{◌>>=◌}
use Rattle.office_files.specs.Fields.{fields_of}
use Rattle.office_files.specs.Reading.{fault_of, fault_after_lines}
use Rattle.office_files.specs.LineFaults.{LinePosition, position_after, header_fault, item_fault, line_fault}
use Rattle.office_files.specs.FirstFault.{at_line_or, first_from}
use Rattle.office_files.specs.Lines.{Located, is_header, section_size}
use Rattle.office_files.specs.Reading.{at_line, items_of}
use Rattle.office_files.specs.Headers.{Heading, header_in}
use Rattle.office_files.specs.Sections.{section_in, AtHeader}
use Rattle.office_files.specs.declared.fault.FaultKind.{FaultKind}
use Rattle.office_files.specs.declared.fault.FileFault.{FileFault}
use Rattle.office_files.proofs.LineLemmas.{size_head, size_line}
use Rattle.office_files.proofs.ReadingLaws.{bind_ok, items_length}
use Rattle.office_files.proofs.SectionLaws.{section_is}

-- the fault of a reading, or else that of the rest
abbrev pub fault_or : {A : Type 0} → Result A FileFault → (A → Option FileFault) → Option FileFault
fault_or (Ok x) next = next x
fault_or (Err fault) next = Some fault

-- if nothing follows, it is the fault of the reading
pub fault_only : {A : Type 0} (r : Result A FileFault) → fault_or r (λ _. None) ≡ fault_of r
fault_only (Ok x) = refl
fault_only (Err fault) = refl

-- two readings have the fault of the first, or else that of the second
pub first_step : {A B : Type 0} (r : Result A FileFault) (next : A → Option FileFault)
    (f : A → Result B FileFault) (later : B → Option FileFault) →
    ((x : A) → r ≡ Ok x → next x ≡ fault_or (f x) later) →
    fault_or r next ≡ fault_or (r >>= f) later
first_step (Ok x) next f later same = same x refl
first_step (Err fault) next f later same = refl

-- the same if the first of them is that of a line
pub first_line : {A B : Type 0} (line : ℕ) (r : Result A FaultKind) (next : Option FileFault)
    (f : A → Result B FileFault) (later : B → Option FileFault) →
    ((x : A) → r ≡ Ok x → next ≡ fault_or (f x) later) →
    at_line_or line (fault_of r) next ≡ fault_or (at_line line r >>= f) later
first_line line (Ok x) next f later same = same x refl
first_line line (Err what) next f later same = refl

-- one more line is read after the items of those before it
pub items_push : {A : Type 0} (read : List A → List (List ℕ) → Result A FaultKind)
    (before all : List A) (lines : List Located) (line : Located) (x : A) →
    items_of read before lines ≡ Ok all → read all (fields_of line.text) ≡ Ok x →
    items_of read before (lines ++ line ∷ []) ≡ Ok (all ++ x ∷ [])
items_push read before all [] line x e is = grind (arith, common_steps)
items_push read before all (l ∷ lines) line x e is =
    let head = bind_ok (at_line l.line (read before (fields_of l.text))) _ all e in
    rw head.1 (items_push read (before ++ head.0 ∷ []) all lines line x head.2 is)

-- the position of the line after these of a section
abbrev pub here : ℕ → (ℕ → ℕ) → List Located → LinePosition
here headers exams since =
    record { headers = headers + 1; since = since; exams = exams (length since) }

-- the position of a header, or of the end
abbrev pub at_header : ℕ → ℕ → LinePosition
at_header headers exams = record { headers = headers; since = []; exams = exams }

-- the section after this many headers is judged by this heading and this reading, and there are
-- `exams n` exams after n of its lines
pub record Judges {A : Type 0} (heading : Heading)
    (read : List A → List (List ℕ) → Result A FaultKind) (headers : ℕ)
    (exams : ℕ → ℕ) : Type 0 where
  pub few : nat_lt headers 6 ≡ true
  pub header : (size : ℕ) (line : Located) →
      header_fault headers size line ≡ fault_of (header_in heading size line.text)
  pub line : (n : ℕ) (since : List Located) (line : Located) →
      item_fault (headers + 1) (record { exams = exams n; periods = 0; rooms = 0 }) since line
      ≡ fault_after_lines read since line
  pub more : (n : ℕ) →
      (if headers + 1 == 1 then exams n + 1 else exams n) ≡ exams (n + 1)

module _ {A : Type 0} (heading : Heading) (read : List A → List (List ℕ) → Result A FaultKind)
    (headers : ℕ) (exams : ℕ → ℕ) (judges : Judges heading read headers exams) where
  -- one more line of the section
  here_more : (since : List Located) (line : Located) → is_header line.text ≡ false →
      position_after (here headers exams since) line ≡ here headers exams (since ++ line ∷ [])
  here_more since line e =
      rw (e, length-append since (line ∷ []), judges.more (length since)) refl

  -- the fault of a line is that of its reading after the items of those before it
  here_fault : (since : List Located) (items : List A) (line : Located) (size : ℕ) →
      is_header line.text ≡ false → items_of read [] since ≡ Ok items →
      line_fault (here headers exams since) line size
      ≡ fault_of (read items (fields_of line.text))
  here_fault since items line size e is =
      rw (e, judges.line (length since) since line, is) refl

  -- the lines up to the next header have the fault of their reading, or else that of the rest
  body_fault : (end : ℕ) (since : List Located) (items : List A) (lines : List Located) →
      items_of read [] since ≡ Ok items →
      first_from end (here headers exams since) lines
      ≡ fault_or (items_of read items (take (section_size lines) lines)) (λ all.
      first_from end (here headers exams (since ++ take (section_size lines) lines))
      (drop (section_size lines) lines))
  body_fault end since items [] is = refl
  body_fault end since items (line ∷ lines) is = elim (cases_Bool (is_header line.text)) [
    | inl e ↦ rw (size_head line lines e, append-nil) refl
    | inr e ↦
        let size = section_size lines in
        rw (size_line line lines e, add-one size)
        (rw (here_fault since items line size e is, here_more since line e)
        (first_line line.line (read items (fields_of line.text)) _ _ _ (λ x ok.
        rw append_assoc at (body_fault end (since ++ line ∷ []) (items ++ x ∷ []) lines
        (items_push read [] items since line x is ok)))))
  ]

  -- at a header, or the end, only the number of the lines before it matters
  after_body : (end n : ℕ) (since lines : List Located) → AtHeader lines → length since ≡ n →
      first_from end (here headers exams since) lines
      ≡ first_from end (at_header (headers + 1) (exams n)) lines
  after_body end n since [] at e = refl
  after_body end n since (line ∷ lines) at e = rw (at, e) refl

  -- the lines after a section's header have the fault of their reading, or else that of the rest
  section_after : (end : ℕ) (line : Located) (lines : List Located) →
      header_in heading (section_size lines) line.text ≡ Ok tt →
      first_from end (here headers exams []) lines
      ≡ fault_or {A = List A × List Located}
      (items_of read [] (take (section_size lines) lines) >>= λ items.
      Ok (items, drop (section_size lines) lines)) (λ got.
      first_from end (at_header (headers + 1) (exams (length got.0))) got.1)
  section_after end line lines headed =
      let body = take (section_size lines) lines in
      let others = drop (section_size lines) lines in
      body_fault end [] [] lines refl ∙ first_step (items_of read [] body) _ _ _ (λ items is.
      after_body end (length items) body others
      (section_is heading read end (line ∷ lines) items others (rw (headed, is) refl)).up_to
      (sym (items_length read body items is)))

  -- a section has the fault of its reading, or else that of the rest
  pub section_first : (end : ℕ) (lines : List Located) → AtHeader lines →
      first_from end (at_header headers (exams 0)) lines
      ≡ fault_or (section_in heading read end lines) (λ got.
      first_from end (at_header (headers + 1) (exams (length got.0))) got.1)
  section_first end [] at = rw judges.few refl
  section_first end (line ∷ lines) at =
      let size = section_size lines in
      rw (at, judges.header size line)
      (first_line line.line (header_in heading size line.text) _ _ _ (λ x ok.
      section_after end line lines ok))

  -- it is the first of two readings
  pub section_step : {B : Type 0} (end : ℕ) (lines : List Located) → AtHeader lines →
      (f : List A × List Located → Result B FileFault) (later : B → Option FileFault) →
      ((got : List A × List Located) → AtHeader got.1 →
      first_from end (at_header (headers + 1) (exams (length got.0))) got.1
      ≡ fault_or (f got) later) →
      first_from end (at_header headers (exams 0)) lines
      ≡ fault_or (section_in heading read end lines >>= f) later
  section_step end lines at f later same =
      section_first end lines at ∙ first_step (section_in heading read end lines) _ f later
      (λ got is. same got (section_is heading read end lines got.0 got.1 is).up_to)
