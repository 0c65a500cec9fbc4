-- A head ends with a line that isn't empty, and an empty one.
use Rattle.std.proofs.lemmas.Grind.{common_steps}
use Rattle.std.proofs.Common.{◌≡◌, ◌≢◌, ℕ, ◌+◌, ◌-◌, ◌<◌, ◌≤◌, Bool, true, false, cond}
use Rattle.std.proofs.Common.{List, [], ◌∷◌, ◌++◌, length, take, Option, Some, None, flat_map}
use Rattle.std.proofs.Common.{codes, refl, sym, ap, subst, ◌∙◌, append_assoc, append-nil, arith}
use Rattle.std.proofs.Common.{length-append, length-take, inl, inr}
use Rattle.std.specs.Prelude.{nat_eq, All, IsTrue, option_and_then}
use Rattle.std.specs.List.{ends_with}
use Rattle.std.specs.Option.{option_map_or}
use Rattle.std.proofs.lemmas.Bool.{both_ways, cases_lt, ne_eqb, lt-ltb}
use Rattle.std.proofs.lemmas.Bool.Decides.{nat_tests}
use Rattle.std.proofs.lemmas.List.Elements.{All-nil, All-head, All-tail}
use Rattle.std.proofs.lemmas.List.{take-take}
use Rattle.std.proofs.Math.Seq.{take-append_seam}
use Rattle.exam_lists.proofs.Parts.{take_front, ends_with_same}
use Rattle.httparse.specs.Ascii.{crlf_bytes}
use Rattle.httparse.specs.Grammar.{LineEnd, crlf, lf, print_end, print_blank, Field, IsField}
use Rattle.httparse.specs.Grammar.{print_field, is_value_byte, AllPass, RequestHead, IsRequestHead}
use Rattle.httparse.specs.Grammar.{print_request}
use Rattle.office_messages.specs.StreamFaults.{LacksHead}
use Rattle.office_messages.specs.HeadEnds.{HasEnd, before_end, ends_in_line, ends_as_head}

-- the bytes end with a plain byte and a line end
pub record EndsLine (bytes : List ℕ) : Type 0 where
  pub text : List ℕ
  pub last : ℕ
  pub end : LineEnd
  pub whole : bytes ≡ (text ++ last ∷ []) ++ print_end end
  pub not_lf : last ≢ 10
  pub not_cr : last ≢ 13

-- a byte and those after it end with a plain byte
pub record EndsPlain (bytes : List ℕ) : Type 0 where
  pub text : List ℕ
  pub last : ℕ
  pub whole : bytes ≡ text ++ last ∷ []
  pub not_lf : last ≢ 10
  pub not_cr : last ≢ 13

value_is_plain : (b : ℕ) → IsTrue (is_value_byte b) → (b ≢ 10) × (b ≢ 13)
value_is_plain b v = (grind (arith, nat_tests), grind (arith, nat_tests))

plain : (b : ℕ) (raw : List ℕ) → b ≢ 10 → b ≢ 13 → AllPass is_value_byte raw → EndsPlain (b ∷ raw)
plain b [] no_lf no_cr all =
    record { text = []; last = b; whole = refl; not_lf = no_lf; not_cr = no_cr }
plain b (x ∷ raw) no_lf no_cr all =
    let v = value_is_plain x (All-head (λ b. IsTrue (is_value_byte b)) x raw all) in
    let rest = plain x raw v.0 v.1 (All-tail (λ b. IsTrue (is_value_byte b)) x raw all) in
    record {
      text = b ∷ rest.text;
      last = rest.last;
      whole = ap (λ (l : List ℕ). b ∷ l) rest.whole;
      not_lf = rest.not_lf;
      not_cr = rest.not_cr;
    }

-- bytes before a plain end and a line end
line_end_after : (front bytes : List ℕ) (end : LineEnd) → EndsPlain bytes
    → EndsLine (front ++ (bytes ++ print_end end))
line_end_after front bytes end p = record {
  text = front ++ p.text;
  last = p.last;
  end = end;
  whole = ap (λ (l : List ℕ). front ++ (l ++ print_end end)) p.whole
      ∙ sym (append_assoc front (p.text ++ p.last ∷ []) (print_end end))
      ∙ ap (λ (l : List ℕ). l ++ print_end end) (sym (append_assoc front p.text (p.last ∷ [])));
  not_lf = p.not_lf;
  not_cr = p.not_cr;
}

field_ends : (front : List ℕ) (f : Field) → IsField f → EndsLine (front ++ print_field f)
field_ends front f is =
    let p = plain 58 f.raw (omega arith) (omega arith) is.raw in
    let tail : List ℕ = 58 ∷ f.raw in
    let e : (front ++ f.name) ++ (tail ++ print_end f.end) ≡ front ++ print_field f =
    append_assoc front f.name (tail ++ print_end f.end)
    ∙ ap (λ (l : List ℕ). front ++ l) (sym (append_assoc f.name tail (print_end f.end))) in
    subst EndsLine e (line_end_after (front ++ f.name) tail f.end p)

-- lines after such a line end in the same way
fields_end : (front : List ℕ) (fields : List Field) → EndsLine front → All IsField fields
    → EndsLine (front ++ flat_map print_field fields)
fields_end front [] ends all = subst EndsLine (sym (append-nil front)) ends
fields_end front (f ∷ fields) ends all =
    let e : (front ++ print_field f) ++ flat_map print_field fields ≡ front ++
    (print_field f ++ flat_map print_field fields) =
    append_assoc front (print_field f) (flat_map print_field fields) in
    subst EndsLine e
    (fields_end (front ++ print_field f) fields (field_ends front f (All-head IsField f fields all))
    (All-tail IsField f fields all))

-- which of the two line ends is there
by_tests : (xs line : List ℕ) (both one : Bool) → ends_with nat_eq xs crlf_bytes ≡ both
    → ends_with nat_eq xs (10 ∷ []) ≡ one
    → cond both (Some (take (length xs - 2) xs))
    (cond one (Some (take (length xs - 1) xs)) None) ≡ Some line → before_end xs ≡ Some line
by_tests xs line both one e f g = grind (arith, common_steps)

line_of : (text : List ℕ) (last : ℕ) (end : LineEnd) → last ≢ 13
    → before_end ((text ++ last ∷ []) ++ print_end end) ≡ Some (text ++ last ∷ [])
line_of text last crlf no_cr = grind (arith, common_steps, by_tests, ends_with_same, take_front)
line_of text last lf no_cr =
    grind (arith, common_steps, append_assoc, by_tests, ends_with_same, ne_eqb, take_front)

in_line : (text : List ℕ) (last : ℕ) → last ≢ 10 → ends_in_line (text ++ last ∷ []) ≡ true
in_line text last no_lf = grind (arith, common_steps, ends_with_same, length-append, lt-ltb, ne_eqb)

-- bytes with a line end at their end end with LF
line_end_last : (line : List ℕ) (end : LineEnd) → (text : List ℕ)
    × (line ++ print_end end ≡ text ++ 10 ∷ [])
line_end_last line crlf = (line ++ 13 ∷ [], sym (append_assoc line (13 ∷ []) (10 ∷ [])))
line_end_last line lf = (line, refl)

-- a plain line and an empty one
ends_both : (bytes : List ℕ) (end : LineEnd) → EndsLine bytes
    → ends_as_head (bytes ++ print_end end) ≡ true
unfolding ends_as_head
ends_both bytes end x =
    let line : List ℕ = x.text ++ x.last ∷ [] in
    let low = line_end_last line x.end in
    let e : bytes ≡ low.0 ++ 10 ∷ [] = x.whole ∙ low.1 in
    let first : before_end (bytes ++ print_end end) ≡ Some bytes =
    ap (λ (l : List ℕ). before_end (l ++ print_end end)) e ∙ line_of low.0 10 end (omega arith)
    ∙ ap Some (sym e) in
    let second : before_end bytes ≡ Some line =
    ap before_end x.whole ∙ line_of x.text x.last x.end x.not_cr in
    ap (λ (o : Option (List ℕ)). option_map_or ends_in_line
    (option_and_then before_end o) false) first
    ∙ ap (λ (o : Option (List ℕ)). option_map_or ends_in_line o false) second
    ∙ in_line x.text x.last x.not_lf

pub head_ends : (h : RequestHead) → IsRequestHead h → ends_as_head (print_request h) ≡ true
unfolding print_request
head_ends h is =
    let before : List ℕ = (print_blank h.blank ++ h.method) ++ 32 ∷ h.target in
    let digit : EndsPlain ((48 + h.minor) ∷ []) =
    plain (48 + h.minor) [] (omega (arith, is.minor)) (omega (arith, is.minor))
    (All-nil (λ b. IsTrue (is_value_byte b))) in
    let version : List ℕ = 32 ∷ codes "HTTP/1." in
    let start : List ℕ = (before ++ (version ++ (48 + h.minor) ∷ [])) ++ print_end h.line_end in
    let e : (before ++ version) ++ (((48 + h.minor) ∷ []) ++ print_end h.line_end) ≡ start =
    sym (append_assoc (before ++ version) ((48 + h.minor) ∷ []) (print_end h.line_end))
    ∙ ap (λ (l : List ℕ). l ++ print_end h.line_end)
    (append_assoc before version ((48 + h.minor) ∷ [])) in
    let lines =
    fields_end start h.fields
    (subst EndsLine e
    (line_end_after (before ++ version) ((48 + h.minor) ∷ []) h.line_end digit)) is.fields in
    ap ends_as_head (sym (append_assoc start (flat_map print_field h.fields) (print_end h.last)))
    ∙ ends_both (start ++ flat_map print_field h.fields) h.last lines

-- a head of few enough bytes is an end
pub no_end_lacks : (bytes : List ℕ) → ¬ (HasEnd bytes) → LacksHead bytes
no_end_lacks bytes none h rest x =
    let text = print_request h in
    none record {
      size = length text;
      within = omega (arith, ap length x.reads.1, length-append text rest);
      fits = x.fits;
      ends = ap ends_as_head (ap (take (length text)) x.reads.1 ∙ take-append_seam text rest)
          ∙ head_ends h x.reads.0;
    }

-- if no head can end after the first n bytes, and none ends within them, none ends at all
pub searched_none : (bytes : List ℕ) (n : ℕ) → n ≤ length bytes → ¬ (HasEnd (take n bytes))
    → ((k : ℕ) → n < k → k ≤ length (take 16384 bytes)
    → ends_as_head (take k (take 16384 bytes)) ≡ false) → ¬ (HasEnd bytes)
searched_none bytes n fits none ends x =
    elim (cases_lt n x.size) [
      | inl past ↦
          both_ways (ends_as_head (take x.size bytes))
          (sym (ap ends_as_head (take-take x.size 16384 bytes x.fits))
          ∙ ends x.size past (omega (arith, length-take 16384 bytes, x.fits, x.within)))
          x.ends
      | inr within ↦
          none record {
            size = x.size;
            within = omega (arith, length-take n bytes, fits, within);
            fits = x.fits;
            ends = ap ends_as_head (take-take x.size n bytes within) ∙ x.ends;
          }
    ]

-- the end that was found in the first bytes
pub found_end : (bytes : List ℕ) (n : ℕ) → n ≤ length (take 16384 bytes)
    → ends_as_head (take n (take 16384 bytes)) ≡ true → HasEnd bytes
found_end bytes n within ends =
    grind (
      arith,
      common_steps,
      length-take 16384 bytes,
      take-take n 16384 bytes (omega (arith, length-take 16384 bytes)),
    )

pub no_end : ¬ (HasEnd [])
unfolding ends_as_head
no_end x = grind (arith, common_steps, both_ways)
