-- From the parser's result for the first bytes of a stream to the whole stream.
use Rattle.std.proofs.lemmas.Grind.{common_steps}
use Rattle.std.proofs.Common.{◌≡◌, ℕ, ◌-◌, ◌<◌, ◌≤◌, List, [], ◌++◌, length, take, drop}
use Rattle.std.proofs.Common.{sym, ap, subst, ◌∙◌, append_assoc, arith, length-append}
use Rattle.std.proofs.Common.{take-append-drop, length-take, length-drop, Option, Some}
use Rattle.std.proofs.Common.{None}
use Rattle.std.proofs.lemmas.List.{length-map, take-append-le, drop-append-le}
use Rattle.std.proofs.Math.Seq.{drop-append_seam}
use Rattle.httparse.specs.Grammar.{RequestHead, ReadsRequest, print_request}
use Rattle.httparse.specs.Grammar.{is_token_byte, IsToken}
use Rattle.httparse.specs.Spans.{IsRequestAt, RequestOverflows}
use Rattle.httparse.specs.declared.spans.HeaderSpan.{HeaderSpan}
use Rattle.httparse.specs.declared.spans.RequestSpans.{RequestSpans}
use Rattle.httparse.specs.declared.spans.Span.{Span}
use Rattle.std.specs.Prelude.{IsTrue, IsUtf8}
use Rattle.std.proofs.lemmas.Bool.Decides.{nat_tests}
use Rattle.std.proofs.lemmas.List.Elements.{All-weaker}
use Rattle.std.proofs.lemmas.Str.{IsUtf8-from_ascii}
use Rattle.std.proofs.lemmas.Str.Ascii.{IsAscii-from_all}
use Rattle.office_messages.specs.Stream.{HasHead, caller_of}
use Rattle.office_messages.specs.StreamFaults.{LacksHead}
use Rattle.office_messages.specs.Heads.{Covers, CallerAt, IsHeadOf, HeadAt}
use Rattle.office_messages.specs.declared.head.Head.{Head}

-- a head at the front stays there, whatever follows
pub reads_more : (buf : List ℕ) (h : RequestHead) (rest more : List ℕ) → ReadsRequest buf h rest
    → ReadsRequest (buf ++ more) h (rest ++ more)
reads_more buf h rest more r =
    (r.0, ap (λ l. l ++ more) r.1 ∙ append_assoc (print_request h) rest more)

-- the rest is the bytes after the head
pub rest_of : (buf : List ℕ) (h : RequestHead) (rest : List ℕ) → ReadsRequest buf h rest
    → rest ≡ drop (length (print_request h)) buf
rest_of buf h rest r =
    sym (ap (drop (length (print_request h))) r.1 ∙ drop-append_seam (print_request h) rest)

-- a head of the first bytes is one of all
pub head_of_front : (bytes : List ℕ) (n : ℕ) (h : RequestHead) (len : ℕ)
    → len ≡ length (print_request h) → length h.fields ≤ 32 → n ≤ 16384
    → ReadsRequest (take n bytes) h (drop len (take n bytes)) → HasHead bytes h (drop len bytes)
head_of_front bytes n h len is room small r =
    grind (
      arith,
      common_steps,
      append_assoc (print_request h) (drop len (take n bytes)) (drop n bytes),
      length-append (print_request h) (drop len (take n bytes)),
      length-take n bytes,
      rest_of,
      take-append-drop n bytes,
    )

-- too many headers in the first bytes are too many in all
pub overflows_of_front : (bytes : List ℕ) (n : ℕ) (room : ℕ) → RequestOverflows room (take n bytes)
    → RequestOverflows room bytes
overflows_of_front bytes n room over more h rest r =
    over (drop n bytes ++ more) h rest (
      r.0,
      sym (append_assoc (take n bytes) (drop n bytes) more)
          ∙ ap (λ l. l ++ more) (take-append-drop n bytes) ∙ r.1,
    )

-- as many headers as fields
pub count_fields : (buf : List ℕ) (headers : List HeaderSpan) (spans : RequestSpans)
    (h : RequestHead) → IsRequestAt buf headers spans h → length h.fields ≤ length headers
count_fields buf headers spans h x = grind (arith, common_steps, length-map, length-take)

-- a head has at least one byte
pub print_some : (h : RequestHead) → 0 < length (print_request h)
unfolding print_request
print_some h = simp length-append (omega arith)

pub nothing_lacks : LacksHead []
nothing_lacks h rest x = let e =
    ap length x.reads.1 in omega (arith, e, length-append (print_request h) rest, print_some h)

-- ---- the parts of a head, by their places

-- a covered part stays covered, whatever follows
pub covers_more : (bytes more : List ℕ) (span : Span) (part : List ℕ) → Covers bytes span part
    → Covers (bytes ++ more) span part
covers_more bytes more span part x = record {
  within = (x.within.0, omega (arith, x.within.1, length-append bytes more));
  covered =
      ap (take (span.end - span.start))
      (drop-append-le span.start bytes more (omega (arith, x.within.0, x.within.1)))
      ∙ take-append-le (span.end - span.start) (drop span.start bytes) more
      (omega (arith, length-drop span.start bytes, x.within.1))
      ∙ x.covered;
}

caller_more : (bytes more : List ℕ) (span : Option Span) (value : Option (List ℕ))
    → CallerAt bytes span value → CallerAt (bytes ++ more) span value
caller_more bytes more None None x = tt
caller_more bytes more None (Some v) x = absurd x
caller_more bytes more (Some s) None x = absurd x
caller_more bytes more (Some s) (Some v) x = covers_more bytes more s v x

pub parts_more : (bytes more : List ℕ) (x : Head) (h : RequestHead) → IsHeadOf bytes x h
    → IsHeadOf (bytes ++ more) x h
parts_more bytes more x h p = record {
  method = covers_more bytes more x.method h.method p.method;
  target = covers_more bytes more x.target h.target p.target;
  caller = caller_more bytes more x.caller (caller_of h) p.caller;
  closing = p.closing;
  start = p.start;
  ordered = p.ordered;
  framed = p.framed;
}

-- more bytes don't move the parsed head
pub head_at_more : (bytes more : List ℕ) (x : Head) → HeadAt bytes x → HeadAt (bytes ++ more) x
head_at_more bytes more x at =
    grind (arith, common_steps, drop-append-le, length-append, parts_more, reads_more)

-- a head parsed in the first bytes is one of all
pub head_at_front : (bytes front : List ℕ) (x : Head) (h : RequestHead) (len : ℕ)
    → front ≡ take 16384 bytes → len ≡ length (print_request h)
    → length h.fields ≤ 32 → ReadsRequest front h (drop len front) → IsHeadOf front x h
    → HeadAt bytes x
head_at_front bytes front x h len e is room reads parts =
    grind (
      arith,
      common_steps,
      head_of_front bytes 16384 h len is room (omega arith) (subst (λ l. ReadsRequest l h (drop len l)) e reads),
      parts_more front (drop 16384 bytes) x h parts,
      take-append-drop 16384 bytes,
    )

-- a byte of a name is ASCII
token_is_ascii : (b : ℕ) → IsTrue (is_token_byte b) → b < 128
unfolding is_token_byte
token_is_ascii b token = grind (arith, nat_tests)

pub token_text : (bytes : List ℕ) → IsToken bytes → IsUtf8 bytes
token_text bytes token =
    grind (arith, common_steps, All-weaker, IsAscii-from_all, IsUtf8-from_ascii, token_is_ascii)
