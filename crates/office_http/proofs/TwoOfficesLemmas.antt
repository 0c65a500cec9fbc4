-- An office in memory, and its replies after a list of requests.
use Rattle.std.proofs.Common.{◌≡◌, ◌≢◌, ◌∙◌, ◌<◌, ◌++◌, ℕ, Bool, true, false, List, [], ◌∷◌, get_or, length, None, Result, Ok, Err, ap, arith, inl, inr, refl, sym, true≢false}
use Rattle.office_messages.specs.FixedReplies.{unavailable}
use Rattle.office_messages.specs.Heads.{plain_request}
use Rattle.office_messages.specs.Reply.{PlainReply}
use Rattle.office_messages.specs.Stream.{PlainRequest}
use Rattle.office_messages.specs.declared.request.Request.{Request}
use Rattle.office_messages.specs.Statuses.{code_of}
use Rattle.office_messages.specs.declared.statuses.Status.TheVariants as status
use Rattle.office_requests.specs.Requests.{PlainCallerCommand, command_or_refusal}
use Rattle.office_requests.specs.declared.requests.Refusal.{Refusal}
use Rattle.office_model.specs.Office.{OfficeState}
use Rattle.office_model.specs.Step.{Outcome}
use Rattle.office_model.specs.Views.{View}
use Rattle.office_replies.specs.Replies.{reply_to}
use Rattle.office_http.specs.CandidateMessages.{bytes_of, reply_from_view}
use Rattle.office_http.specs.Replying.{Replies, RepliesTo, RepliesCandidateView}
use Rattle.office_http.specs.TwoOffices.{RepliesSameBytes, RepliesText, office_after, office_after_command}
use Rattle.office_http.specs.TwoOffices.{office_from, office_of, office_unless}
use Rattle.office_http.proofs.UnavailableLemmas.{unavailable_leaves}

-- the reply isn't that the office is unavailable
abbrev pub IsAvailable : PlainReply → Type 0
IsAvailable reply = reply.status ≢ status.ServiceUnavailable

is_other : (reply : PlainReply) → IsAvailable reply → reply ≢ unavailable
is_other reply available is = available (ap (λ (r : PlainReply). r.status) is)

after_asked : (said : Result PlainCallerCommand Refusal) (old new : OfficeState)
    (reply : PlainReply)
    → RepliesTo said old reply new → IsAvailable reply → new ≡ office_after_command old said
after_asked (Err refusal) old new reply h available = h.0
after_asked (Ok asked) old new reply (answer, step, is) available = elim step [
  | inl same ↦ ap (λ (o : Outcome). o.0) same
  | inr h ↦ absurd (is_other reply available (is ∙ ap reply_to h.1))
]

after : (old new : OfficeState) (request : PlainRequest) (reply : PlainReply)
    → Replies old request reply new → IsAvailable reply → new ≡ office_after old request
after old new request reply h =
    after_asked (command_or_refusal request.method request.target request.caller request.body) old new reply h

pub text : (office : OfficeState) (request : PlainRequest) (reply : PlainReply)
    → RepliesCandidateView office request reply → IsAvailable reply
    → RepliesText office request reply
text office request reply by_view available = λ s is. elim (by_view s is) [
  | inl said ↦ said
  | inr other ↦ absurd (is_other reply available other)
]

pub alike : (one other : OfficeState) (request : PlainRequest) (reply answer : PlainReply)
    → RepliesText one request reply → RepliesText other request answer
    → RepliesSameBytes one other request reply answer
alike one other request reply answer first second = λ s is same.
    ap (λ (r : PlainReply). bytes_of (request, r))
    (first s is ∙ ap (λ (v : View). reply_from_view s request v) same ∙ sym (second s is))

-- one more request
more_from : (office : OfficeState) (missed : List Bool) (requests : List Request) (was_missed : Bool)
    (d : Request) → length missed < length requests
    → office_from office (missed ++ was_missed ∷ []) requests
    ≡ office_unless was_missed (office_from office missed requests)
    (get_or requests (length missed) d)
more_from office [] [] was_missed d within = absurd (omega arith)
more_from office [] (r ∷ requests) was_missed d within = refl
more_from office (m ∷ missed) [] was_missed d within = absurd (omega arith)
more_from office (m ∷ missed) (r ∷ requests) was_missed d within =
    more_from (office_unless m office r) missed requests was_missed d (omega arith)

pub office_of_more : (missed : List Bool) (requests : List Request) (was_missed : Bool) (i : ℕ)
    (d : Request) → length missed ≡ i → i < length requests
    → office_of (missed ++ was_missed ∷ []) requests
    ≡ office_unless was_missed (office_of missed requests) (get_or requests i d)
office_of_more missed requests was_missed i d is within =
    more_from None missed requests was_missed d (omega (arith, is))
    ∙ ap (λ n. office_unless was_missed (office_of missed requests) (get_or requests n d)) is

-- a request that was sent: done, or missed
pub sent : (old new : OfficeState) (request : Request) (reply : PlainReply) (is_missed : Bool)
    → Replies old (plain_request request) reply new
    → (is_missed ≡ true → reply.status ≡ status.ServiceUnavailable)
    → (reply.status ≡ status.ServiceUnavailable → is_missed ≡ true)
    → new ≡ office_unless is_missed old request
sent old new request reply true replies is was =
    unavailable_leaves old new (plain_request request) reply replies (ap code_of (is refl))
sent old new request reply false replies is was =
    after old new (plain_request request) reply replies (λ k. true≢false (sym (was k)))
