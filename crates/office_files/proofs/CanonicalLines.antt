-- Written lines are read back: as many lines, and of each its fields.
use Rattle.std.proofs.lemmas.Grind.{common_steps}
use Rattle.std.proofs.Common.{◌≡◌, ◌≢◌, ℕ, ◌+◌, ◌-◌, ◌*◌, ◌%◌, ◌^◌, ◌<◌, ◌≤◌, Bool, true, false, rules}
use Rattle.std.proofs.Common.{List, [], ◌∷◌, ◌++◌, length, refl, sym, ap, ap₂, ◌∙◌, arith, append-nil}
use Rattle.std.specs.Prelude.{◌==◌, ◌&&◌, not, nat_lt, map, decimal, Result, Ok}
use Rattle.std.specs.List.{list_all, flat_map, AllByRecursion}
use Rattle.std.specs.Char.{is_ascii_digit}
use Rattle.std.proofs.lemmas.Bool.{eq-eqb, ne_eqb, and_parts, lt-ltb, le-leb}
use Rattle.std.proofs.lemmas.Fmt.{decimal_by_steps, length-decimal-le}
use Rattle.std.proofs.lemmas.List.{append_assoc}
use Rattle.std.proofs.lemmas.List.Concat.{flat_map-cons}
use Rattle.std.proofs.lemmas.List.Folds.{list_all-append}
use Rattle.exam_lists.proofs.Each.{each_append}
use Rattle.exam_lists.proofs.Digits.{is_digit}
use Rattle.exam_lists.proofs.Parts.{length_append_some}
use Rattle.exam_lists.proofs.Tests.{all_apart}
use Rattle.office_files.specs.CanonicalLines.{line_of, field_before}
use Rattle.exam_terms.specs.Texts.{is_blank, before_end, trim_start, trim_end, trimmed_text}
use Rattle.office_files.specs.Fields.{ended_parts, fields_of}
use Rattle.office_files.specs.Lines.{Located, pieces_from, trimmed_piece, unless_blank, without_return}
use Rattle.office_files.specs.Lines.{lines_from, is_header}
use Rattle.office_files.specs.Numbers.{read_on, number}
use Rattle.office_files.specs.Reading.{items_of}
use Rattle.office_files.specs.declared.fault.FaultKind.{FaultKind}
use Rattle.exam_terms.proofs.TextLemmas.{trim_start-kept}
use Rattle.office_files.proofs.LineLemmas.{without_return-cr}
use Rattle.office_files.proofs.ReadOnLemmas.{fields_after_space}

-- ---- fields

-- a byte of a field: no blank, no end of a line, no comma
abbrev pub plain_byte : ℕ → Bool
plain_byte b = nat_lt 32 b && not (b == 44)

-- a written field: one or more bytes, none of which ends it
pub record IsField (f : List ℕ) : Type 0 where
  pub some : 0 < length f
  pub plain : list_all plain_byte f ≡ true

no_blank : (b : ℕ) → plain_byte b ≡ true → is_blank b ≡ false
no_blank b e = grind (arith, common_steps, ne_eqb)

-- ---- cutting

-- a part ends at its mark
pub parts_stop : (c : ℕ) (xs ys : List ℕ) → AllByRecursion (λ b. b ≢ c) xs
    → ended_parts c (xs ++ c ∷ ys) ≡ xs ∷ ended_parts c ys
parts_stop c [] ys other = rw (eq-eqb c c refl) refl
parts_stop c (x ∷ xs) ys other =
    rw (ne_eqb x c other.0, parts_stop c xs ys other.1) refl

-- or at the end of the text
parts_single : (c x : ℕ) (xs : List ℕ) → AllByRecursion (λ b. b ≢ c) (x ∷ xs)
    → ended_parts c (x ∷ xs) ≡ (x ∷ xs) ∷ []
parts_single c x [] other = rw (ne_eqb x c other.0) refl
parts_single c x (y ∷ ys) other =
    rw (ne_eqb x c other.0, parts_single c y ys other.1) refl

-- ---- trimming

end_single : (b : ℕ) → is_blank b ≡ false → before_end b [] ≡ b ∷ []
end_single b e = rw e refl

end_plain : (f : List ℕ) → list_all plain_byte f ≡ true → trim_end f ≡ f
end_plain [] e = refl
end_plain (x ∷ []) e =
    end_single x (no_blank x (and_parts (plain_byte x) true e).0)
end_plain (x ∷ y ∷ ys) e =
    ap (before_end x)
    (end_plain (y ∷ ys) (and_parts (plain_byte x) (list_all plain_byte (y ∷ ys)) e).1)

end_some : (b : ℕ) (xs : List ℕ) → 0 < length xs → before_end b xs ≡ b ∷ xs
end_some b [] some = absurd (omega arith)
end_some b (x ∷ xs) some = refl

end_after : (xs ys : List ℕ) → 0 < length ys → trim_end ys ≡ ys → trim_end (xs ++ ys) ≡ xs ++ ys
end_after [] ys some e = e
end_after (x ∷ xs) ys some e =
    ap (before_end x) (end_after xs ys some e) ∙ end_some x (xs ++ ys) (length_append_some xs ys some)

start_plain : (f ys : List ℕ) → IsField f → trim_start (f ++ ys) ≡ f ++ ys
start_plain [] ys is = let some = is.some in absurd (omega arith)
start_plain (x ∷ xs) ys is = grind (arith, common_steps, and_parts, no_blank, trim_start-kept)

-- ---- lines

-- the text of a line has no line end in it and no blanks around it, and has these fields
pub record IsLine (text : List ℕ) (fields : List (List ℕ)) : Type 0 where
  pub some : 0 < length text
  pub whole : AllByRecursion (λ b. b ≢ 10) text
  pub starts : trim_start text ≡ text
  pub ends : trim_end text ≡ text
  pub fields_are : fields_of text ≡ fields

field_single : (f : List ℕ) → IsField f → fields_of f ≡ f ∷ []
field_single [] is = let some = is.some in absurd (omega arith)
field_single (x ∷ xs) is =
    grind (arith, common_steps, all_apart, append-nil, end_plain, parts_single, start_plain)

-- a line with one field
pub line_single : (f : List ℕ) → IsField f → IsLine f (f ∷ [])
line_single f is = record {
  some = is.some;
  whole = all_apart plain_byte 10 refl f is.plain;
  starts = ap trim_start (sym (append-nil f)) ∙ start_plain f [] is ∙ append-nil f;
  ends = end_plain f is.plain;
  fields_are = field_single f is;
}

field_first : (f ys : List ℕ) → IsField f → fields_of (f ++ 44 ∷ ys) ≡ f ∷ fields_of ys
field_first f ys is =
    grind (arith, common_steps, all_apart, append-nil f, end_plain, parts_stop, start_plain f [] is)

-- a field in front of others, with only a comma between
pub line_comma : (f ys : List ℕ) (fields : List (List ℕ)) → IsField f → IsLine ys fields
    → IsLine (f ++ 44 ∷ ys) (f ∷ fields)
line_comma f ys fields is line = record {
  some = length_append_some f (44 ∷ ys) (omega arith);
  whole = each_append (λ b. b ≢ 10) f (44 ∷ ys) (all_apart plain_byte 10 refl f is.plain)
      ((λ (same : 44 ≡ 10). absurd (omega arith)), line.whole);
  starts = start_plain f (44 ∷ ys) is;
  ends = end_after f (44 ∷ ys) (omega arith) (end_after (44 ∷ []) ys line.some line.ends);
  fields_are = field_first f ys is ∙ ap (λ (gs : List (List ℕ)). f ∷ gs) line.fields_are;
}

-- a field before others
pub line_before : (f ys : List ℕ) (fields : List (List ℕ)) → IsField f → IsLine ys fields
    → IsLine (field_before f ys) (f ∷ fields)
line_before f ys fields is line = record {
  some = length_append_some f (44 ∷ 32 ∷ ys) (omega arith);
  whole = each_append (λ b. b ≢ 10) f (44 ∷ 32 ∷ ys) (all_apart plain_byte 10 refl f is.plain) (
    (λ (same : 44 ≡ 10). absurd (omega arith)),
    (
      (λ (same : 32 ≡ 10). absurd (omega arith)),
      line.whole,
    ),
  );
  starts = start_plain f (44 ∷ 32 ∷ ys) is;
  ends = end_after f (44 ∷ 32 ∷ ys) (omega arith)
      (end_after (44 ∷ 32 ∷ []) ys line.some line.ends);
  fields_are = field_first f (32 ∷ ys) is
      ∙ ap (λ (gs : List (List ℕ)). f ∷ gs)
      (sym (fields_after_space ys line.some) ∙ line.fields_are);
}

-- ---- numbers

record IsDecimal (n : ℕ) (ds : List ℕ) : Type 0 where
  some : 0 < length ds
  digits : list_all is_ascii_digit ds ≡ true
  plain : list_all plain_byte ds ≡ true
  value : read_on 0 ds ≡ n

read_on-push : (n : ℕ) (ds : List ℕ) (d : ℕ)
    → read_on n (ds ++ d ∷ []) ≡ 10 * read_on n ds + (d - 48)
read_on-push n [] d = refl
read_on-push n (e ∷ ds) d = read_on-push (10 * n + (e - 48)) ds d

pub plain_digit : (b : ℕ) → 48 ≤ b → plain_byte b ≡ true
plain_digit b least = rw (lt-ltb 32 b (omega arith), ne_eqb b 44 (λ same. omega arith)) refl

is_decimal : (n : ℕ) → n < 2 ^ 64 → IsDecimal n (decimal n)
is_decimal = decimal_by_steps IsDecimal
    (λ n lt. record {
      some = omega arith;
      digits = rw (is_digit (48 + n) (omega arith) (omega arith)) refl;
      plain = rw (plain_digit (48 + n) (omega arith)) refl;
      value = omega arith;
    })
    (λ n ds ten more. record {
      some = length_append_some ds ((48 + n % 10) ∷ []) (omega arith);
      digits = list_all-append is_ascii_digit ds ((48 + n % 10) ∷ [])
          ∙ rw (more.digits, is_digit (48 + n % 10) (omega arith) (omega arith)) refl;
      plain = list_all-append plain_byte ds ((48 + n % 10) ∷ [])
          ∙ rw (more.plain, plain_digit (48 + n % 10) (omega arith)) refl;
      value = read_on-push 0 ds (48 + n % 10) ∙ rw more.value (omega arith);
    })

small : (n : ℕ) → n < 2000000000 → n < 2 ^ 64
small n lt = omega arith

-- a number is a field
pub field_decimal : (n : ℕ) → n < 2000000000 → IsField (decimal n)
field_decimal n lt =
    let is = is_decimal n (small n lt) in record { some = is.some; plain = is.plain }

-- that reads as the number
pub number_decimal : (limit n : ℕ) → n ≤ limit → limit < 2000000000
    → number limit (decimal n) ≡ Ok n
number_decimal limit n le lt = grind (arith, common_steps, is_decimal, le-leb, lt-ltb, small)

-- a byte that is no digit isn't in a decimal
pub decimal_apart : (c n : ℕ) → is_ascii_digit c ≡ false → n < 2000000000
    → AllByRecursion (λ b. b ≢ c) (decimal n)
decimal_apart c n other lt =
    all_apart is_ascii_digit c other (decimal n) (is_decimal n (small n lt)).digits

-- a line that begins with a decimal is no header
pub decimal_first : (n : ℕ) (ys : List ℕ) → n < 2000000000 → is_header (decimal n ++ ys) ≡ false
decimal_first n ys lt =
    first (decimal n) (is_decimal n (small n lt)).some (decimal_apart 91 n refl lt)
  where
    first : (ds : List ℕ) → 0 < length ds → AllByRecursion (λ b. b ≢ 91) ds
        → is_header (ds ++ ys) ≡ false
    first [] some all = absurd (omega arith)
    first (d ∷ ds) some all = ne_eqb d 91 all.0

pub trimmed_field : (f : List ℕ) → IsField f → trimmed_text f ≡ f
trimmed_field f is = grind (arith, common_steps, append-nil f, end_plain, start_plain f [] is)

-- a decimal has at most this many digits
pub length_decimal : (k n : ℕ) → 0 < k → n < 10 ^ k → n < 2000000000 → length (decimal n) ≤ k
length_decimal k n some lt fits = length-decimal-le k n some lt (small n fits)

-- ---- one line after another

-- the lines of a text, from a line's number and its place on
abbrev pub rows : ℕ → ℕ → List ℕ → List Located
rows line at text = lines_from line (pieces_from at (ended_parts 10 text))

end_split : (xs ys : List ℕ) → line_of xs ++ ys ≡ (xs ++ 13 ∷ []) ++ 10 ∷ ys
end_split [] ys = refl
end_split (x ∷ xs) ys = ap (λ (zs : List ℕ). x ∷ zs) (end_split xs ys)

row_kept : (row : Located) (others : List Located) → 0 < length row.text
    → unless_blank row others ≡ row ∷ others
row_kept row others some = rw (ne_eqb (length row.text) 0 (λ none. omega arith)) refl

-- the first line, followed by the others
pub row_first : (text : List ℕ) (fields : List (List ℕ)) → IsLine text fields
    → (line at : ℕ) (ys : List ℕ) → (row : Located) × (next : ℕ)
    × (rows line at (line_of text ++ ys) ≡ row ∷ rows (line + 1) next ys) × (row.text ≡ text)
row_first text fields is line at ys =
    let cut : List ℕ = text ++ 13 ∷ [] in
    let next : ℕ = at + length cut + 1 in
    let row : Located = trimmed_piece line (record { start = at; text = without_return cut }) in
    let parts : ended_parts 10 (line_of text ++ ys) ≡ cut ∷ ended_parts 10 ys
    = ap (ended_parts 10) (end_split text ys)
    ∙ parts_stop 10 cut ys (each_append (λ b. b ≢ 10) text (13 ∷ []) is.whole
    ((λ (same : 13 ≡ 10). absurd (omega arith)), tt)) in
    let said : row.text ≡ text
    = ap trimmed_text (without_return-cr text) ∙ ap trim_end is.starts ∙ is.ends in (
      row,
      next,
      ap (λ (ps : List (List ℕ)). lines_from line (pieces_from at ps)) parts
          ∙ row_kept row (rows (line + 1) next ys) (rw said is.some),
      said,
    )

module _ {A : Type 0} (text : A → List ℕ) (fields : A → List (List ℕ)) where
  all_split : (x : A) (xs : List A) (ys : List ℕ) → flat_map (λ x. line_of (text x)) (x ∷ xs) ++ ys
      ≡ line_of (text x) ++ (flat_map (λ x. line_of (text x)) xs ++ ys)
  all_split x xs ys = grind (arith, common_steps, append_assoc, flat_map-cons)

  -- a line for each element of a list, followed by the others
  pub row_each : (xs : List A) → AllByRecursion (λ x. IsLine (text x) (fields x)) xs
      → (line at : ℕ) (ys : List ℕ) → (found : List Located) × (line' : ℕ) × (next : ℕ)
      × (rows line at (flat_map (λ x. line_of (text x)) xs ++ ys) ≡ found ++ rows line' next ys)
      × (map (λ row. row.text) found ≡ map text xs)
  row_each [] is line at ys = ([], line, at, refl, refl)
  row_each (x ∷ xs) is line at ys =
      let head = row_first (text x) (fields x) is.0 line at
      (flat_map (λ x. line_of (text x)) xs ++ ys) in
      let tail = row_each xs is.1 (line + 1) head.1 ys in (
        head.0 ∷ tail.0,
        tail.1,
        tail.2,
        ap (rows line at) (all_split x xs ys) ∙ head.2
            ∙ ap (λ (rs : List Located). head.0 ∷ rs) tail.3,
        ap₂ (λ (t : List ℕ) (ts : List (List ℕ)). t ∷ ts) head.3 tail.4,
      )

  -- each element of a list is read from its own line, after the elements before it
  abbrev pub AreRead : (List A → List (List ℕ) → Result A FaultKind) → List A → List A → Type 0
  AreRead read done [] = Unit {0}
  AreRead read done (x ∷ xs) =
      (read done (fields x) ≡ Ok x) × AreRead read (done ++ x ∷ []) xs

  -- then all of them are read
  pub read_each : (read : List A → List (List ℕ) → Result A FaultKind) (done xs : List A)
      (found : List Located) → AllByRecursion (λ x. IsLine (text x) (fields x)) xs
      → map (λ row. row.text) found ≡ map text xs → AreRead read done xs
      → items_of read done found ≡ Ok (done ++ xs)
  read_each read done [] [] is e r = rw append-nil refl
  read_each read done [] (row ∷ found) is e r = cc
  read_each read done (x ∷ xs) [] is e r = cc
  read_each read done (x ∷ xs) (row ∷ found) is e r =
      search (rules, read_each read (done ++ x ∷ []) xs found is.1 (cc) r.1, append_assoc)
