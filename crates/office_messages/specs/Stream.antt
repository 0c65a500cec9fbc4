-- The requests at the front of a stream, in whatever pieces it arrives.
use Rattle.std.specs.Prelude.{◌≡◌, ℕ, ◌≤◌, Bool, ◌||◌, ◌==◌}
use Rattle.std.specs.Prelude.{List, [], ◌∷◌, length, take, drop, map, Option, Some, None, Ok, codes}
use Rattle.std.specs.List.{list_any}
use Rattle.httparse.specs.Grammar.{RequestHead, ReadsRequest, print_request}
use Rattle.httparse.specs.Spans.{name_and_value}
use Rattle.office_messages.specs.Fields.{Header, values_named, asks_to_close}
use Rattle.office_messages.specs.Framing.{framing}

-- the most fields of a head
abbrev pub max_headers : ℕ
max_headers = 32

-- the most bytes of a head
abbrev pub max_head : ℕ
max_head = 16384

-- a request without its place in memory
pub record PlainRequest : Type 0 where
  pub method : List ℕ
  pub target : List ℕ
  pub caller : Option (List ℕ)
  pub body : List ℕ

-- the one value, if there is exactly one
abbrev pub only_value : List (List ℕ) → Option (List ℕ)
only_value [] = None
only_value (v ∷ []) = Some v
only_value (v ∷ w ∷ vs) = None

-- the names and values of a head
abbrev pub fields_of : RequestHead → List Header
fields_of h = map name_and_value h.fields

-- the value of X-Caller, if it is there exactly once
abbrev pub caller_of : RequestHead → Option (List ℕ)
caller_of h = only_value (values_named (codes "x-caller") (fields_of h))

-- the head makes its message the last of the connection
abbrev pub is_last_message : RequestHead → Bool
is_last_message h = (h.minor == 0) || list_any asks_to_close (fields_of h)

-- the request of a head and a body
abbrev pub request_of : RequestHead → List ℕ → PlainRequest
request_of h body = record {
  method = h.method;
  target = h.target;
  caller = caller_of h;
  body = body;
}

-- the stream begins with the head h, which is within its limits; the empty lines before it count
pub record HasHead (stream : List ℕ) (h : RequestHead) (rest : List ℕ) : Type 0 where
  pub reads : ReadsRequest stream h rest
  pub room : length h.fields ≤ max_headers
  pub fits : length (print_request h) ≤ max_head

-- the stream begins with this request, whether it is the last or not, and continues with rest
pub record RequestAt (r : PlainRequest) (last : Bool) (stream rest : List ℕ) : Type 0 where
  pub head : RequestHead
  pub after : List ℕ
  pub has_head : HasHead stream head after
  pub size : ℕ
  pub framed : framing head.minor (fields_of head) ≡ Ok size
  pub whole : size ≤ length after
  pub request : r ≡ request_of head (take size after)
  pub closing : last ≡ is_last_message head
  pub rest_is : rest ≡ drop size after
