-- A candidate gets the text of their view.
use Rattle.std.proofs.Common.{◌≡◌, ◌⊎◌, ◌∙◌, ℕ, Option, Some, None, Result, Ok, Err, ap, inl, inr, refl, subst}
use Rattle.exam_terms.specs.Refusing.{◌>>=◌, else_err}
use Rattle.office_messages.specs.Reply.{PlainReply}
use Rattle.office_messages.specs.FixedReplies.{unavailable}
use Rattle.office_messages.specs.Stream.{PlainRequest}
use Rattle.office_policy.specs.Commands.{PlainCommand}
use Rattle.office_policy.specs.declared.callers.Caller.TheVariants.{Cand}
use Rattle.office_requests.specs.Methods.{verb_of}
use Rattle.office_requests.specs.Requests.{PlainCallerCommand, command_by, caller_in, own_command, command_or_refusal}
use Rattle.office_requests.specs.declared.requests.Refusal.{Refusal}
use Rattle.office_requests.specs.declared.requests.Refusal.TheVariants as refusal
use Rattle.office_model.specs.Office.{OfficeState}
use Rattle.office_model.specs.Step.{Outcome}
use Rattle.office_model.specs.Views.{view_of}
use Rattle.office_model.proofs.AnswerLemmas.{candidate_answer}
use Rattle.office_replies.specs.Replies.{reply_to}
use Rattle.office_http.specs.Replying.{Replies, RepliesTo, RepliesCandidateView, view_or_denial}

-- the command that a candidate's message asks for, if it asks for one of the candidate's pages
abbrev pub said_by : ℕ → Option PlainCommand → Result PlainCallerCommand Refusal
said_by s (Some command) = Ok (record { caller = Cand s; command = command })
said_by s None = Err refusal.Candidate

said_is : (s : ℕ) (command : Option PlainCommand)
    → (else_err refusal.Candidate
    command >>= (λ asked. Ok (record { caller = Cand s; command = asked })))
    ≡ said_by s command
said_is s None = refl
said_is s (Some command) = refl

pub own_reading : (s : ℕ) (request : PlainRequest) → caller_in request.caller ≡ Some (Cand s)
    → command_or_refusal request.method request.target request.caller request.body
    ≡ said_by s (own_command (verb_of request.method) request.target)
own_reading s request is =
    ap (λ found. else_err refusal.Caller found >>= (λ who.
    command_by who (verb_of request.method) request.target request.body >>= (λ asked.
    Ok (record { caller = who; command = asked })))) is
    ∙ said_is s (own_command (verb_of request.method) request.target)

trace_by : (s : ℕ) (command : Option PlainCommand) (old new : OfficeState) (reply : PlainReply)
    → RepliesTo (said_by s command) old reply new
    → (reply ≡ view_or_denial s command (view_of s old)) ⊎ (reply ≡ unavailable)
trace_by s None old new reply h = inl h.1
trace_by s (Some command) old new reply (answer, step, is) = elim step [
  | inl same ↦ inl (is ∙ ap reply_to (ap (λ (o : Outcome). o.1)
      (same ∙ candidate_answer s old command)))
  | inr h ↦ inr (is ∙ ap reply_to h.1)
]

-- whatever state the office goes to
pub replies_view : (old new : OfficeState) (request : PlainRequest) (reply : PlainReply)
    → Replies old request reply new → RepliesCandidateView old request reply
replies_view old new request reply h = λ s is.
    trace_by s (own_command (verb_of request.method) request.target) old new reply
    (subst (λ said. RepliesTo said old reply new) (own_reading s request is) h)
