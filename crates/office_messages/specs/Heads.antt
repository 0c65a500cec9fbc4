-- The facts about a message that is being received.
use Rattle.std.specs.Prelude.{◌≡◌, ℕ, ◌-◌, ◌≤◌, List, [], ◌∷◌, length, drop, Option, Some}
use Rattle.std.specs.Prelude.{None, Ok, Err, option_copied, codes}
use Rattle.httparse.specs.Grammar.{RequestHead, print_request}
use Rattle.httparse.specs.Spans.{IsWithin, span_bytes}
use Rattle.httparse.specs.declared.spans.Span.{Span}
use Rattle.office_messages.specs.Fields.{Header, values_named}
use Rattle.office_messages.specs.Form.{form_of}
use Rattle.office_messages.specs.Framing.{framing}
use Rattle.office_messages.specs.Stream.{PlainRequest, HasHead, fields_of, caller_of, is_last_message}
use Rattle.office_messages.specs.declared.fields.Seen.{Seen}
use Rattle.office_messages.specs.declared.fields.Seen.TheVariants.{Absent, Once, Repeated}
use Rattle.office_messages.specs.declared.framing.FramingFields.{FramingFields}
use Rattle.office_messages.specs.declared.head.BadHead.{BadHead}
use Rattle.office_messages.specs.declared.head.Head.{Head}
use Rattle.office_messages.specs.declared.request.Request.{Request}

-- the span is within the bytes and covers this part of them
pub record Covers (bytes : List ℕ) (span : Span) (part : List ℕ) : Type 0 where
  pub within : IsWithin (length bytes) span
  pub covered : span_bytes bytes span ≡ part

-- what is seen of these values: none, the one, or that there are several
abbrev pub Sees : List ℕ → List (List ℕ) → Seen → Type 0
Sees bytes [] Absent = Unit {0}
Sees bytes [] (Once s) = ⊥
Sees bytes [] Repeated = ⊥
Sees bytes (v ∷ []) Absent = ⊥
Sees bytes (v ∷ []) (Once s) = Covers bytes s v
Sees bytes (v ∷ []) Repeated = ⊥
Sees bytes (v ∷ w ∷ vs) Absent = ⊥
Sees bytes (v ∷ w ∷ vs) (Once s) = ⊥
Sees bytes (v ∷ w ∷ vs) Repeated = Unit {0}

-- the fields that frame a message were seen among these
pub record FramedBy (bytes : List ℕ) (fields : List Header) (seen : FramingFields) : Type 0 where
  pub hosts : Sees bytes (values_named (codes "host") fields) seen.hosts
  pub codings : Sees bytes (values_named (codes "transfer-encoding") fields) seen.codings
  pub lengths : Sees bytes (values_named (codes "content-length") fields) seen.lengths

-- the place of the caller's value, if there is one
abbrev pub CallerAt : List ℕ → Option Span → Option (List ℕ) → Type 0
CallerAt bytes None None = Unit {0}
CallerAt bytes None (Some v) = ⊥
CallerAt bytes (Some s) None = ⊥
CallerAt bytes (Some s) (Some v) = Covers bytes s v

-- these are the parts of the head h, by their places in the bytes
pub record IsHeadOf (bytes : List ℕ) (x : Head) (h : RequestHead) : Type 0 where
  pub method : Covers bytes x.method h.method
  pub target : Covers bytes x.target h.target
  pub caller : CallerAt bytes x.caller (caller_of h)
  pub closing : x.closes ≡ is_last_message h
  pub start : x.body.start ≡ length (print_request h)
  pub ordered : x.body.start ≤ x.body.end
  pub framed : framing h.minor (fields_of h) ≡ Ok (x.body.end - x.body.start)

-- the bytes begin with a head of these parts
pub record HeadAt (bytes : List ℕ) (x : Head) : Type 0 where
  pub head : RequestHead
  pub has_head : HasHead bytes head (drop x.body.start bytes)
  pub parts : IsHeadOf bytes x head

-- the head h is refused with this fault
pub record IsBadHead (bad : BadHead) (h : RequestHead) : Type 0 where
  pub framed : framing h.minor (fields_of h) ≡ Err bad.fault
  pub form_is : bad.form ≡ form_of h.method

-- a request without its place in memory
abbrev pub plain_request : Request → PlainRequest
plain_request r = record {
  method = r.method.now;
  target = r.target.now;
  caller = option_copied r.caller;
  body = r.body.now;
}
