-- Two offices in memory, each after a list of requests.
use Rattle.std.specs.Prelude.{◌≡◌, ℕ, Bool, true, false, List, [], ◌∷◌, Option, None, Result, Ok, Err}
use Rattle.exam_publish.specs.Shares.{Sharing}
use Rattle.office_messages.specs.Heads.{plain_request}
use Rattle.office_messages.specs.Reply.{PlainReply}
use Rattle.office_messages.specs.Stream.{PlainRequest}
use Rattle.office_messages.specs.declared.request.Request.{Request}
use Rattle.office_requests.specs.Requests.{PlainCallerCommand, command_or_refusal}
use Rattle.office_requests.specs.declared.requests.Refusal.{Refusal}
use Rattle.office_model.specs.Office.{OfficeState}
use Rattle.office_model.specs.Step.{step}
use Rattle.office_model.specs.Views.{view_of}
use Rattle.office_store.specs.Publications.{AddUpIn, shares_in}
use Rattle.office_http.specs.CandidateMessages.{IsFrom, bytes_of, reply_from_view}

-- the office after the command of a request; a request without one leaves it unchanged
abbrev pub office_after_command : OfficeState → Result PlainCallerCommand Refusal → OfficeState
office_after_command office (Ok asked) = (step office asked.caller asked.command).0
office_after_command office (Err refusal) = office

-- the office after a request
abbrev pub office_after : OfficeState → PlainRequest → OfficeState
office_after office request =
    office_after_command office
    (command_or_refusal request.method request.target request.caller request.body)

-- the office after a request, unless it was missed: then nothing was done
abbrev pub office_unless : Bool → OfficeState → Request → OfficeState
office_unless true office request = office
office_unless false office request = office_after office (plain_request request)

-- the office that these requests lead to, one after another; those that were missed did nothing
abbrev pub office_from : OfficeState → List Bool → List Request → OfficeState
office_from office [] requests = office
office_from office (was_missed ∷ missed) [] = office
office_from office (was_missed ∷ missed) (request ∷ requests) =
    office_from (office_unless was_missed office request) missed requests

-- the same from the office without a session
abbrev pub office_of : List Bool → List Request → OfficeState
office_of missed requests = office_from None missed requests

-- the reply to a candidate's request is the text of the candidate's view
abbrev pub RepliesText : OfficeState → PlainRequest → PlainReply → Type 0
RepliesText office request reply =
    (s : ℕ) → IsFrom s request → reply ≡ reply_from_view s request (view_of s office)

-- if two offices agree on a candidate's view, the candidate gets the same bytes from both
abbrev pub RepliesSameBytes : (one other : OfficeState) → PlainRequest → (reply answer : PlainReply)
    → Type 0
RepliesSameBytes one other request reply answer =
    (s : ℕ) → IsFrom s request → view_of s one ≡ view_of s other
    → bytes_of (request, reply) ≡ bytes_of (request, answer)

-- these are the shares of the publication, if there is one, and they add up to its penalty
abbrev pub AreShares : OfficeState → Option Sharing → Type 0
AreShares office shares = (shares ≡ shares_in office) × AddUpIn office shares
