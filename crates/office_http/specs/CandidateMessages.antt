-- A candidate's messages, and their replies, which depend only on the candidate's view.
use Rattle.std.specs.Prelude.{◌≡◌, ◌⊎◌, ℕ, List, [], ◌∷◌, ◌++◌, Some}
use Rattle.office_messages.specs.Form.{form_of}
use Rattle.office_messages.specs.Reply.{PlainReply, reply_text}
use Rattle.office_messages.specs.FixedReplies.{fault_reply, unavailable}
use Rattle.office_messages.specs.Messages.{Item, asks, fails}
use Rattle.office_messages.specs.Stream.{PlainRequest}
use Rattle.office_policy.specs.declared.callers.Caller.TheVariants.{Cand}
use Rattle.office_requests.specs.Methods.{verb_of}
use Rattle.office_requests.specs.Requests.{caller_in, own_command}
use Rattle.office_model.specs.Views.{View}
use Rattle.office_http.specs.Replying.{view_or_denial}

-- the message comes from the candidate s
abbrev pub IsFrom : ℕ → PlainRequest → Type 0
IsFrom s request = caller_in request.caller ≡ Some (Cand s)

-- each message comes from the candidate s
abbrev pub AreFrom : ℕ → List Item → Type 0
AreFrom s [] = Unit {0}
AreFrom s (fails fault form ∷ items) = AreFrom s items
AreFrom s (asks request ∷ items) = IsFrom s request × AreFrom s items

-- the reply to a candidate's message, which depends only on their view
abbrev pub reply_from_view : ℕ → PlainRequest → View → PlainReply
reply_from_view s request view = view_or_denial s
    (own_command (verb_of request.method) request.target) view

-- a message with its reply, as bytes
abbrev pub bytes_of : PlainRequest × PlainReply → List ℕ
bytes_of said = reply_text (form_of (said.0).method) said.1

-- the bytes of a candidate's connection, which depend only on their view
abbrev pub output_from_view : ℕ → View → List Item → List ℕ
output_from_view s view [] = []
output_from_view s view (fails fault form ∷ items) =
    reply_text form (fault_reply fault) ++ output_from_view s view items
output_from_view s view (asks request ∷ items) =
    bytes_of (request, reply_from_view s request view) ++ output_from_view s view items

-- two messages ask for the same page by the same method
pub record AsksTheSame (one other : PlainRequest) : Type 0 where
  pub method : one.method ≡ other.method
  pub target : one.target ≡ other.target

-- two messages got the same bytes, unless one of the replies says that the office is unavailable
abbrev pub HaveSameBytes : PlainRequest × PlainReply → PlainRequest × PlainReply → Type 0
HaveSameBytes one other =
    (bytes_of one ≡ bytes_of other) ⊎ ((one.1 ≡ unavailable) ⊎ (other.1 ≡ unavailable))
