-- A head waits for nothing more after its end.
use Rattle.std.proofs.lemmas.Grind.{common_steps}
use Rattle.std.proofs.Common.{◌≡◌, ◌≢◌, ℕ, ◌-◌, ◌<◌, ◌≤◌, Bool, true, false, cond, rules}
use Rattle.std.proofs.Common.{List, [], ◌∷◌, ◌++◌, length, take, drop, Option, Some, None, flat_map}
use Rattle.std.proofs.Common.{refl, sym, ap, ◌∙◌, append_assoc, append-nil, arith}
use Rattle.std.proofs.Common.{length-append, take-append-drop, inl, inr, ◌⊎◌}
use Rattle.std.specs.Prelude.{nat_eq, All, IsTrue, option_and_then}
use Rattle.std.specs.List.{ends_with}
use Rattle.std.specs.Option.{option_map_or}
use Rattle.std.proofs.lemmas.Bool.{both_ways}
use Rattle.std.proofs.lemmas.Bool.Decides.{nat_tests}
use Rattle.std.proofs.lemmas.List.{nil_from_length, take-take}
use Rattle.std.proofs.lemmas.List.Elements.{All-cons, All-head, All-tail, All-append}
use Rattle.std.proofs.lemmas.List.Elements.{All-weaker, All-from_recursion}
use Rattle.exam_lists.proofs.Parts.{ends_with_append, ends_with_take, last_of, nil_no_append}
use Rattle.exam_lists.proofs.Appended.{append_around, append_nested, append_under_first}
use Rattle.httparse.specs.Ascii.{crlf_bytes}
use Rattle.httparse.specs.Grammar.{LineEnd, crlf, lf, print_end, print_blank, Field, IsField}
use Rattle.httparse.specs.Grammar.{print_field, print_section, print_version, is_value_byte, AllPass}
use Rattle.httparse.specs.Grammar.{is_token_byte, is_uri_byte, IsToken, RequestHead, IsRequestHead}
use Rattle.httparse.specs.Grammar.{print_request, HasNoRequest, MayBecomeRequest}
use Rattle.httparse.proofs.GrammarLemmas.{cons-append}
use Rattle.office_messages.specs.HeadEnds.{before_end, ends_in_line, ends_as_head, HasEnd}

-- neither LF nor CR
abbrev IsPlain : ℕ → Type 0
IsPlain b = (b ≢ 10) × (b ≢ 13)

token_is_plain : (b : ℕ) → IsTrue (is_token_byte b) → IsPlain b
unfolding is_token_byte
token_is_plain b t = (grind (arith, nat_tests), grind (arith, nat_tests))

uri_is_plain : (b : ℕ) → IsTrue (is_uri_byte b) → IsPlain b
uri_is_plain b t = (grind (arith, nat_tests), grind (arith, nat_tests))

value_is_plain : (b : ℕ) → IsTrue (is_value_byte b) → IsPlain b
value_is_plain b t = (grind (arith, nat_tests), grind (arith, nat_tests))

-- the bytes are front, the byte last of a line, its end, an empty line, and rest
record Ended (bytes rest : List ℕ) : Type 0 where
  front : List ℕ
  last : ℕ
  first : LineEnd
  second : LineEnd
  whole : bytes ≡ front ++ last ∷ (print_end first ++ (print_end second ++ rest))
  not_lf : last ≢ 10
  not_cr : first ≡ lf → last ≢ 13

-- ---- one line removed from the front

-- two line ends at one place are one
one_line_end : (a b : LineEnd) (s t : List ℕ) → print_end a ++ s ≡ print_end b ++ t → s ≡ t
one_line_end crlf crlf s t e = cc
one_line_end crlf lf s t e = absurd (let h : ◌≡◌ {A = ℕ} 13 10 = cc in omega arith)
one_line_end lf crlf s t e = absurd (let h : ◌≡◌ {A = ℕ} 10 13 = cc in omega arith)
one_line_end lf lf s t e = cc

not_plain : (a : LineEnd) (b : ℕ) (s t : List ℕ) → IsPlain b → b ∷ s ≡ print_end a ++ t → ⊥
not_plain crlf b s t p e = p.1 (let h : b ≡ 13 = cc in h)
not_plain lf b s t p e = p.0 (let h : b ≡ 10 = cc in h)

-- a plain line is followed by the empty line, or the end comes later
abbrev Goes : List ℕ → List ℕ → ℕ → LineEnd → LineEnd → List ℕ → Type 0
Goes content t c a b r =
    ((0 < length content) × (t ≡ print_end b ++ r))
    ⊎ ((q : List ℕ) × (t ≡ q ++ c ∷ (print_end a ++ (print_end b ++ r))))

at_last : (y : ℕ) (ys : List ℕ) (e : LineEnd) (t : List ℕ) (c : ℕ) (a b : LineEnd) (r : List ℕ)
    → All IsPlain (y ∷ ys)
    → ys ++ (print_end e ++ t) ≡ print_end a ++ (print_end b ++ r) → Goes (y ∷ ys) t c a b r
at_last y [] e t c a b r all is = inl (omega arith, one_line_end e a t (print_end b ++ r) is)
at_last y (z ∷ ys) e t c a b r all is =
    absurd (not_plain a z (ys ++ (print_end e ++ t)) (print_end b ++ r)
    (All-head IsPlain z ys (All-tail IsPlain y (z ∷ ys) all)) is)

no_content : (e : LineEnd) (t q : List ℕ) (c : ℕ) (a b : LineEnd) (r : List ℕ) → c ≢ 10
    → (a ≡ lf → c ≢ 13) → print_end e ++ t ≡ q ++ c ∷ (print_end a ++ (print_end b ++ r))
    → Goes [] t c a b r
no_content lf t [] c a b r not_lf not_cr is = absurd (not_lf (let h : c ≡ 10 = cc in h))
no_content lf t (x ∷ q) c a b r not_lf not_cr is = inr (q, cc)
no_content crlf t [] c lf b r not_lf not_cr is = absurd (not_cr refl (let h : c ≡ 13 = cc in h))
no_content crlf t [] c crlf b r not_lf not_cr is =
    absurd (let h : ◌≡◌ {A = ℕ} 10 13 = cc in omega arith)
no_content crlf t (x ∷ []) c a b r not_lf not_cr is = absurd (not_lf (let h : c ≡ 10 = cc in h))
no_content crlf t (x ∷ y ∷ q) c a b r not_lf not_cr is = inr (q, cc)

line_off : (content : List ℕ) (e : LineEnd) (t q : List ℕ) (c : ℕ) (a b : LineEnd) (r : List ℕ)
    → All IsPlain content → c ≢ 10 → (a ≡ lf → c ≢ 13)
    → content ++ (print_end e ++ t) ≡ q ++ c ∷ (print_end a ++ (print_end b ++ r))
    → Goes content t c a b r
line_off [] e t q c a b r all not_lf not_cr is = no_content e t q c a b r not_lf not_cr is
line_off (y ∷ ys) e t [] c a b r all not_lf not_cr is = at_last y ys e t c a b r all cc
line_off (y ∷ ys) e t (x ∷ q) c a b r all not_lf not_cr is =
    search (rules, line_off ys e t q c a b r (All-tail IsPlain y ys all) not_lf not_cr, All-tail)

-- ---- the lines of a head

name_starts : (name rest : List ℕ) (b : LineEnd) (r : List ℕ) → IsToken name
    → name ++ rest ≡ print_end b ++ r → ⊥
name_starts [] rest b r token is = omega (arith, token.0)
name_starts (x ∷ name) rest b r token is =
    grind (arith, common_steps, All-head, not_plain, token_is_plain)

-- an empty line ends the fields
no_empty_field : (fields : List Field) (last b : LineEnd) (r : List ℕ) → All IsField fields
    → flat_map print_field fields ++ print_end last ≡ print_end b ++ r → r ≡ []
no_empty_field [] last b r all is =
    sym (one_line_end last b [] r (append-nil (print_end last) ∙ is))
no_empty_field (f ∷ fields) last b r all is =
    grind (arith, common_steps, All-head, append_under_first, name_starts)

field_is_plain : (f : Field) → IsField f → All IsPlain (f.name ++ 58 ∷ f.raw)
field_is_plain f is =
    grind (arith, common_steps, All-append, All-cons, All-weaker, token_is_plain, value_is_plain)

-- the end of the fields is the one end
fields_end_once : (fields : List Field) (last : LineEnd) (q : List ℕ) (c : ℕ) (a b : LineEnd)
    (r : List ℕ) → All IsField fields → c ≢ 10 → (a ≡ lf → c ≢ 13)
    → flat_map print_field fields ++ print_end last
    ≡ q ++ c ∷ (print_end a ++ (print_end b ++ r)) → r ≡ []
fields_end_once [] last q c a b r all not_lf not_cr is =
    elim (no_content last [] q c a b r not_lf not_cr (append-nil (print_end last) ∙ is)) [
      | inl h ↦ absurd (omega (arith, h.0))
      | inr h ↦ absurd (nil_no_append h.0 c (print_end a ++ (print_end b ++ r)) h.1)
    ]
fields_end_once (f ∷ fields) last q c a b r all not_lf not_cr is =
    let more = flat_map print_field fields in
    let rest = All-tail IsField f fields all in
    let e : (f.name ++ 58 ∷ f.raw) ++ (print_end f.end ++ (more ++ print_end last))
    ≡ q ++ c ∷ (print_end a ++ (print_end b ++ r)) =
    append_nested (f.name ++ 58 ∷ f.raw) (print_end f.end) more (print_end last) ∙ is in
    elim (line_off (f.name ++ 58 ∷ f.raw) f.end (more ++ print_end last) q c a b r
    (field_is_plain f (All-head IsField f fields all)) not_lf not_cr e) [
      | inl h ↦ no_empty_field fields last b r rest h.1
      | inr h ↦ fields_end_once fields last h.0 c a b r rest not_lf not_cr h.1
    ]

-- the empty lines at the front follow no line
after_blank : (blank : List LineEnd) (t q : List ℕ) (c : ℕ) (a b : LineEnd) (r : List ℕ) → c ≢ 10
    → (a ≡ lf → c ≢ 13)
    → print_blank blank ++ t ≡ q ++ c ∷ (print_end a ++ (print_end b ++ r))
    → (p : List ℕ) × (t ≡ p ++ c ∷ (print_end a ++ (print_end b ++ r)))
after_blank [] t q c a b r not_lf not_cr is = (q, is)
after_blank (e ∷ blank) t q c a b r not_lf not_cr is =
    elim (no_content e (print_blank blank ++ t) q c a b r not_lf not_cr
    (sym (append_assoc (print_end e) (print_blank blank) t) ∙ is)) [
      | inl h ↦ absurd (omega (arith, h.0))
      | inr h ↦ after_blank blank t h.0 c a b r not_lf not_cr h.1
    ]

version_is_plain : (minor : ℕ) → minor ≤ 1 → All IsPlain (print_version minor)
version_is_plain minor small = grind (arith, common_steps, All-from_recursion)

start_is_plain : (h : RequestHead) → IsRequestHead h
    → All IsPlain (h.method ++ 32 ∷ (h.target ++ 32 ∷ print_version h.minor))
start_is_plain h is =
    All-append IsPlain h.method (32 ∷ (h.target ++ 32 ∷ print_version h.minor))
    (All-weaker (λ b. IsTrue (is_token_byte b)) IsPlain token_is_plain h.method is.method.1)
    (All-cons IsPlain 32 (h.target ++ 32 ∷ print_version h.minor) (omega arith, omega arith)
    (All-append IsPlain h.target (32 ∷ print_version h.minor)
    (All-weaker (λ b. IsTrue (is_uri_byte b)) IsPlain uri_is_plain h.target is.target.1)
    (All-cons IsPlain 32 (print_version h.minor) (omega arith, omega arith)
    (version_is_plain h.minor is.minor))))

-- a head has only its own end
head_ends_once : (h : RequestHead) (q : List ℕ) (c : ℕ) (a b : LineEnd) (r : List ℕ)
    → IsRequestHead h → c ≢ 10 → (a ≡ lf → c ≢ 13)
    → print_request h ≡ q ++ c ∷ (print_end a ++ (print_end b ++ r)) → r ≡ []
unfolding print_request
head_ends_once h q c a b r is not_lf not_cr e =
    let section = print_section h.fields h.last in
    let start = h.method ++ 32 ∷ (h.target ++ 32 ∷ print_version h.minor) in
    let after = after_blank h.blank (start ++ (print_end h.line_end ++ section)) q c a b r
    not_lf not_cr
    (append_around 32 (print_blank h.blank) h.method h.target (print_version h.minor)
    (print_end h.line_end) section ∙ e) in
    elim (line_off start h.line_end section after.0 c a b r (start_is_plain h is) not_lf not_cr
    after.1) [
      | inl h2 ↦ no_empty_field h.fields h.last b r is.fields h2.1
      | inr h2 ↦ fields_end_once h.fields h.last h2.0 c a b r is.fields not_lf not_cr h2.1
    ]

-- bytes that end within a target have no end
target_has_none : (method target q : List ℕ) (c : ℕ) (a b : LineEnd) (r : List ℕ)
    → IsToken method → AllPass is_uri_byte target → c ≢ 10 → (a ≡ lf → c ≢ 13)
    → method ++ 32 ∷ target ≡ q ++ c ∷ (print_end a ++ (print_end b ++ r)) → ⊥
target_has_none method target q c a b r token uri not_lf not_cr e =
    let line = method ++ 32 ∷ target in
    let all : All IsPlain line =
    All-append IsPlain method (32 ∷ target)
    (All-weaker (λ b. IsTrue (is_token_byte b)) IsPlain token_is_plain method token.1)
    (All-cons IsPlain 32 target (omega arith, omega arith)
    (All-weaker (λ b. IsTrue (is_uri_byte b)) IsPlain uri_is_plain target uri)) in
    let more = r ++ 10 ∷ [] in
    let longer : line ++ (print_end lf ++ []) ≡ q ++ c ∷ (print_end a ++ (print_end b ++ more)) =
    ap (λ (l : List ℕ). l ++ 10 ∷ []) e ∙ widen q c (print_end a) (print_end b) r (10 ∷ []) in
    elim (line_off line lf [] q c a b more all not_lf not_cr longer) [
      | inl h ↦ absurd (none_left b more h.1)
      | inr h ↦ absurd (nil_no_append h.0 c (print_end a ++ (print_end b ++ more)) h.1)
    ]
  where
    widen : (q : List ℕ) (c : ℕ) (a b r m : List ℕ)
        → (q ++ c ∷ (a ++ (b ++ r))) ++ m ≡ q ++ c ∷ (a ++ (b ++ (r ++ m)))
    widen q c a b r m = simp append_assoc

    none_left : (b : LineEnd) (t : List ℕ) → [] ≡ print_end b ++ t → ⊥
    none_left crlf t e = omega (arith, ap length e)
    none_left lf t e = omega (arith, ap length e)

-- ---- the bytes that end as a head

-- a line, its end, and the end that it doesn't have
record LineBefore (xs line : List ℕ) : Type 0 where
  end : LineEnd
  whole : xs ≡ line ++ print_end end
  crlf_not : end ≡ lf → ends_with nat_eq xs crlf_bytes ≡ false

by_tests : (xs line : List ℕ) (both one : Bool) → ends_with nat_eq xs crlf_bytes ≡ both
    → ends_with nat_eq xs (10 ∷ []) ≡ one
    → cond both (Some (take (length xs - 2) xs))
    (cond one (Some (take (length xs - 1) xs)) None) ≡ Some line → LineBefore xs line
by_tests xs line true one e f g = grind (arith, common_steps, ends_with_take)
by_tests xs line false true e f g = grind (arith, common_steps, ends_with_take)
by_tests xs line false false e f g = absurd (let h : ⊥ = cc in h)

line_before : (xs line : List ℕ) → before_end xs ≡ Some line → LineBefore xs line
line_before xs line e =
    by_tests xs line (ends_with nat_eq xs crlf_bytes) (ends_with nat_eq xs (10 ∷ [])) refl refl e

in_line : (line : List ℕ) → ends_in_line line ≡ true
    → (front : List ℕ) × (last : ℕ) × (line ≡ front ++ last ∷ []) × (last ≢ 10)
in_line [] e = absurd (let h : ⊥ = cc in h)
in_line (x ∷ xs) e = grind (arith, common_steps, both_ways, ends_with_append, last_of x xs)

one_line : (lines : List ℕ) (o : Option (List ℕ)) → before_end lines ≡ o
    → option_map_or ends_in_line o false ≡ true
    → (line : List ℕ) × (before_end lines ≡ Some line) × (ends_in_line line ≡ true)
one_line lines None is e = absurd (let h : ⊥ = cc in h)
one_line lines (Some line) is e = (line, is, e)

two_lines : (bytes : List ℕ) (o : Option (List ℕ)) → before_end bytes ≡ o
    → option_map_or ends_in_line (option_and_then before_end o) false ≡ true
    → (lines : List ℕ) × (line : List ℕ) × (before_end bytes ≡ Some lines)
    × (before_end lines ≡ Some line) × (ends_in_line line ≡ true)
two_lines bytes None is e = absurd (let h : ⊥ = cc in h)
two_lines bytes (Some lines) is e =
    let one = one_line lines (before_end lines) refl e in (lines, one.0, is, one.1, one.2)

ended : (bytes : List ℕ) → ends_as_head bytes ≡ true → Ended bytes []
unfolding ends_as_head
ended bytes e =
    let two = two_lines bytes (before_end bytes) refl e in
    let outer = line_before bytes two.0 two.2 in
    let inner = line_before two.0 two.1 two.3 in
    let parts = in_line two.1 two.4 in
    record {
      front = parts.0;
      last = parts.1;
      first = inner.end;
      second = outer.end;
      whole = outer.whole ∙ ap (λ (l : List ℕ). l ++ print_end outer.end)
          (inner.whole ∙ ap (λ (l : List ℕ). l ++ print_end inner.end) parts.2)
          ∙ regroup parts.0 parts.1 (print_end inner.end) (print_end outer.end);
      not_lf = parts.3;
      not_cr = λ is_lf is_cr.
          both_ways (ends_with nat_eq two.0 crlf_bytes) (inner.crlf_not is_lf)
          (ap (λ (l : List ℕ). ends_with nat_eq l crlf_bytes)
          (inner.whole ∙ ap (λ (l : List ℕ). l ++ print_end inner.end) parts.2
          ∙ ap (λ (x : LineEnd). (parts.0 ++ parts.1 ∷ []) ++ print_end x) is_lf
          ∙ ap (λ (x : ℕ). (parts.0 ++ x ∷ []) ++ 10 ∷ []) is_cr
          ∙ append_assoc parts.0 (13 ∷ []) (10 ∷ [])) ∙ ends_with_append parts.0 crlf_bytes);
    }
  where
    regroup : (q : List ℕ) (c : ℕ) (a b : List ℕ)
        → ((q ++ c ∷ []) ++ a) ++ b ≡ q ++ c ∷ (a ++ (b ++ []))
    regroup q c a b = simp (append_assoc, cons-append, append-nil)

-- ---- bytes that may still become a head

ended_more : (bytes more : List ℕ) → Ended bytes [] → Ended (bytes ++ more) more
ended_more bytes more x = record {
  front = x.front;
  last = x.last;
  first = x.first;
  second = x.second;
  whole = ap (λ (l : List ℕ). l ++ more) x.whole
      ∙ regroup x.front x.last (print_end x.first) (print_end x.second) more;
  not_lf = x.not_lf;
  not_cr = x.not_cr;
}
  where
    regroup : (q : List ℕ) (c : ℕ) (a b m : List ℕ)
        → (q ++ c ∷ (a ++ (b ++ []))) ++ m ≡ q ++ c ∷ (a ++ (b ++ m))
    regroup q c a b m = simp append_assoc

no_more : (front head rest : List ℕ) → front ≡ head ++ rest → ends_as_head head ≡ true
    → MayBecomeRequest front → HasNoRequest front → ⊥
no_more front head rest is e (inl (more, h, reads)) none =
    let x = ended_more head (rest ++ more) (ended head e) in
    let whole : print_request h
    ≡ x.front ++ x.last ∷ (print_end x.first ++ (print_end x.second ++ (rest ++ more))) =
    sym (append-nil (print_request h)) ∙ sym reads.1 ∙ ap (λ (l : List ℕ). l ++ more) is
    ∙ append_assoc head rest more ∙ x.whole in
    let over = head_ends_once h x.front x.last x.first x.second (rest ++ more) reads.0 x.not_lf
    x.not_cr whole in
    let short : more ≡ [] =
    nil_from_length more (omega (arith, ap length over, length-append rest more)) in
    none h []
    (reads.0, sym (append-nil front) ∙ ap (λ (l : List ℕ). front ++ l) (sym short) ∙ reads.1)
no_more front head rest is e (inr (blank, method, target, token, uri, whole)) none =
    let x = ended_more head rest (ended head e) in
    let after = after_blank blank (method ++ 32 ∷ target) x.front x.last x.first x.second rest
    x.not_lf x.not_cr
    (sym (append_assoc (print_blank blank) method (32 ∷ target)) ∙ sym whole ∙ is ∙ x.whole) in
    target_has_none method target after.0 x.last x.first x.second rest token uri x.not_lf x.not_cr
    after.1

-- if an empty line follows a line, httparse waits for nothing more
pub end_is_final : (bytes : List ℕ) → HasEnd bytes → MayBecomeRequest (take 16384 bytes)
    → HasNoRequest (take 16384 bytes) → ⊥
end_is_final bytes x may none =
    let front = take 16384 bytes in
    no_more front (take x.size front) (drop x.size front) (sym (take-append-drop x.size front))
    (ap ends_as_head (take-take x.size 16384 bytes x.fits) ∙ x.ends) may none
