-- A section that is written is a section of the text.
use Rattle.std.proofs.lemmas.Grind.{common_steps}
use Rattle.std.proofs.Common.{◌≡◌, ◌≢◌, ℕ, ◌+◌, ◌*◌, ◌<◌, ◌≤◌, true, false, List, [], ◌∷◌, ◌++◌, length}
use Rattle.std.proofs.Common.{Result, Ok, refl, sym, ap, subst, ◌∙◌, append_assoc, arith, length-append}
use Rattle.std.specs.Prelude.{map, decimal, All}
use Rattle.std.specs.List.{flat_map, AllByRecursion}
use Rattle.std.specs.Str.{str_eq_ignore_ascii_case}
use Rattle.std.proofs.lemmas.Bool.{lt-ltb, eq-eqb}
use Rattle.std.proofs.lemmas.List.{length-map}
use Rattle.std.proofs.lemmas.List.Elements.{All-nil, All-cons, All-head, All-tail}
use Rattle.std.proofs.lemmas.List.Folds.{list_all-append}
use Rattle.exam_lists.proofs.Each.{each_append}
use Rattle.exam_lists.proofs.Maps.{length_flat_map-le}
use Rattle.office_files.specs.CanonicalLines.{line_of}
use Rattle.office_files.specs.CanonicalText.{header_text, section_text}
use Rattle.office_files.specs.Lines.{Located, is_header}
use Rattle.office_files.specs.Headers.{Heading, header_in, plain_header, counted_header}
use Rattle.office_files.specs.Sections.{AtHeader, IsSection}
use Rattle.office_files.specs.declared.fault.FaultKind.{FaultKind}
use Rattle.office_files.proofs.CanonicalItems.{split_stop}
use Rattle.office_files.proofs.CanonicalLines.{IsField, IsLine, plain_byte, line_single, field_decimal, number_decimal, decimal_apart, trimmed_field, length_decimal, rows, row_first, row_each, AreRead, read_each}
use Rattle.office_files.proofs.ReadingLaws.{items_spelled}

-- ---- headers

-- a word of a header: a field without a colon or a bracket that is its own word
pub record IsWord (word : List ℕ) : Type 0 where
  pub field : IsField word
  pub colon : AllByRecursion (λ b. b ≢ 58) word
  pub bracket : AllByRecursion (λ b. b ≢ 93) word
  pub same : str_eq_ignore_ascii_case word word ≡ true
  pub short : length word ≤ 30

pub counted_said : (word : List ℕ) (limit n : ℕ) → IsWord word → 1 ≤ n → n ≤ limit
    → limit < 2000000000
    → counted_header word limit n (91 ∷ (word ++ 58 ∷ (decimal n ++ 93 ∷ []))) ≡ Ok tt
counted_said word limit n is some le fits =
    let digits = field_decimal n (omega arith) in
    rw (
      sym (append_assoc word (58 ∷ decimal n) (93 ∷ [])),
      split_stop 93 (word ++ 58 ∷ decimal n) [] (each_append (λ b. b ≢ 93) word (58 ∷ decimal n) is.bracket
          ((λ same. absurd (omega arith)), decimal_apart 93 n refl (omega arith))),
      split_stop 58 word (decimal n) is.colon,
      trimmed_field word is.field,
      is.same,
      trimmed_field (decimal n) digits,
      number_decimal limit n le fits,
      lt-ltb 0 n (omega arith),
      eq-eqb n n refl,
    ) refl

pub plain_said : (word : List ℕ) → IsWord word → plain_header word (91 ∷ (word ++ 93 ∷ [])) ≡ Ok tt
plain_said word is =
    rw (split_stop 93 word [] is.bracket, trimmed_field word is.field, is.same) refl

pub counted_field : (word : List ℕ) (n : ℕ) → IsWord word → n < 2000000000
    → IsField (91 ∷ (word ++ 58 ∷ (decimal n ++ 93 ∷ [])))
counted_field word n is lt = grind (arith, common_steps, field_decimal, list_all-append, plain_byte)

pub plain_field : (word : List ℕ) → IsWord word → IsField (91 ∷ (word ++ 93 ∷ []))
plain_field word is = record {
  some = omega arith;
  plain = list_all-append plain_byte word (93 ∷ []) ∙ rw is.field.plain refl;
}

pub counted_short : (word : List ℕ) (n : ℕ) → IsWord word → n ≤ 2000
    → length (line_of (91 ∷ (word ++ 58 ∷ (decimal n ++ 93 ∷ [])))) ≤ 45
counted_short word n is le =
    let digits = length_decimal 4 n (omega arith) (omega arith) (omega arith) in
    let end = length-append (decimal n) (93 ∷ []) in
    let all = length-append word (58 ∷ (decimal n ++ 93 ∷ [])) in
    let line = length-append (91 ∷ (word ++ 58 ∷ (decimal n ++ 93 ∷ []))) (13 ∷ 10 ∷ []) in
    let short = is.short in
    omega arith

pub plain_short : (word : List ℕ) → IsWord word
    → length (line_of (91 ∷ (word ++ 93 ∷ []))) ≤ 45
plain_short word is = grind (arith, common_steps, length-append)

-- lines that begin with a header
pub at_header : (text ys : List ℕ) → IsField text → is_header text ≡ true → (line at : ℕ)
    → AtHeader (rows line at (line_of text ++ ys))
at_header text ys is head line at =
    let first = row_first text (text ∷ []) (line_single text is) line at ys in
    subst AtHeader (sym first.2) (ap is_header first.3 ∙ head)

-- ---- sections

module _ {A : Type 0} (heading : Heading) (read : List A → List (List ℕ) → Result A FaultKind)
    (text : A → List ℕ) (fields : A → List (List ℕ)) where
  no_headers : (xs : List A) (found : List Located) → map (λ row. row.text) found ≡ map text xs
      → AllByRecursion (λ x. is_header (text x) ≡ false) xs
      → All (λ line. is_header line.text ≡ false) found
  no_headers [] [] e none = All-nil (λ (line : Located). is_header line.text ≡ false)
  no_headers [] (row ∷ found) e none = cc
  no_headers (x ∷ xs) [] e none = cc
  no_headers (x ∷ xs) (row ∷ found) e none =
      grind (arith, common_steps, no_headers xs found (cc) none.1, All-cons)

  pub record IsWritten (xs : List A) : Type 0 where
    pub headed : header_in heading (length xs) (header_text heading (length xs)) ≡ Ok tt
    pub header : IsField (header_text heading (length xs))
    pub lines : AllByRecursion (λ x. IsLine (text x) (fields x)) xs
    pub none : AllByRecursion (λ x. is_header (text x) ≡ false) xs
    pub back : AreRead text fields read [] xs

  -- a section followed by others
  pub section_written : (xs : List A) → IsWritten xs → (line at : ℕ) (ys : List ℕ)
      → ((line at : ℕ) → AtHeader (rows line at ys)) → (line' : ℕ) × (next : ℕ)
      × IsSection heading read (rows line at (section_text heading text xs ++ ys)) xs
      (rows line' next ys)
  section_written xs is line at ys after =
      let h : List ℕ = header_text heading (length xs) in
      let flat : List ℕ = flat_map (λ x. line_of (text x)) xs in
      let first = row_first h (h ∷ []) (line_single h is.header) line at (flat ++ ys) in
      let each = row_each text fields xs is.lines (line + 1) first.1 ys in
      let many : length each.0 ≡ length xs
      = sym (length-map each.0 (λ row. row.text)) ∙ ap length each.4 ∙ length-map xs text in (
        each.1,
        each.2,
        record {
          header = first.0;
          body = each.0;
          cut = ap (rows line at) (append_assoc (line_of h) flat ys) ∙ first.2
              ∙ ap (λ (rs : List Located). first.0 ∷ rs) each.3;
          headed = ap (λ n. header_in heading n first.0.text) many
              ∙ ap (header_in heading (length xs)) first.3 ∙ is.headed;
          no_header = no_headers xs each.0 each.4 is.none;
          up_to = after each.1 each.2;
          spelled = items_spelled read each.0 xs
              (read_each text fields read [] xs each.0 is.lines each.4 is.back);
        },
      )

  -- of the lines before it, only their number matters
  pub reads_within : (P : A → Type 0) (n : ℕ)
      → ((done : List A) (x : A) → P x → length done < n → read done (fields x) ≡ Ok x)
      → (done xs : List A) → length done + length xs ≤ n → All P xs
      → AreRead text fields read done xs
  reads_within P n each done [] le all = tt
  reads_within P n each done (x ∷ xs) le all = (
    each done x (All-head P x xs all) (omega arith),
    reads_within P n each (done ++ x ∷ []) xs (omega (arith, length-append done (x ∷ [])))
        (All-tail P x xs all),
  )

  pub section_short : (k : ℕ) (xs : List A)
      → length (line_of (header_text heading (length xs))) ≤ 45
      → AllByRecursion (λ x. length (line_of (text x)) ≤ k) xs
      → length (section_text heading text xs) ≤ 45 + length xs * k
  section_short k xs header lines = grind (arith, common_steps, length-append, length_flat_map-le)

  -- it begins with its header
  pub at_section : (xs : List A) → IsWritten xs → (ys : List ℕ) (line at : ℕ)
      → AtHeader (rows line at (section_text heading text xs ++ ys))
  at_section xs is ys line at =
      let h : List ℕ = header_text heading (length xs) in
      let flat : List ℕ = flat_map (λ x. line_of (text x)) xs in
      subst (λ (t : List ℕ). AtHeader (rows line at t)) (sym (append_assoc (line_of h) flat ys))
      (at_header h (flat ++ ys) is.header refl line at)
