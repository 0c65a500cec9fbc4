-- The office's reply to a request.
use Rattle.std.specs.Prelude.{◌≡◌, ◌⊎◌, ℕ, true, Option, Some, None, Result, Ok, Err}
use Rattle.sqlite.specs.Held.{Held, state}
use Rattle.sqlite.specs.State.{HasCleanDisk, State, Survives}
use Rattle.sqlite.specs.Store.{Ghosts}
use Rattle.sqlite_trees.specs.Tree.{Trees}
use Rattle.office_messages.specs.Reply.{PlainReply}
use Rattle.office_messages.specs.FixedReplies.{unavailable}
use Rattle.office_messages.specs.Stream.{PlainRequest}
use Rattle.office_messages.specs.declared.statuses.Status.{Status}
use Rattle.office_messages.specs.declared.statuses.Status.TheVariants as status
use Rattle.office_policy.specs.Commands.{PlainCommand}
use Rattle.office_policy.specs.declared.callers.Caller.TheVariants.{Cand}
use Rattle.office_policy.specs.declared.policy.Denial.TheVariants.{P1}
use Rattle.office_requests.specs.Methods.{verb_of}
use Rattle.office_requests.specs.Requests.{PlainCallerCommand, caller_in, own_command, command_or_refusal}
use Rattle.office_requests.specs.Answering.{refusal_reply}
use Rattle.office_requests.specs.Texts.{error_reply}
use Rattle.office_requests.specs.declared.texts.FixedError.TheVariants.{Denied}
use Rattle.office_requests.specs.declared.requests.Refusal.{Refusal}
use Rattle.office_model.specs.Answers.{PlainAnswer, has_stored_data}
use Rattle.office_model.specs.Office.{OfficeState}
use Rattle.office_model.specs.Step.{Steps}
use Rattle.office_model.specs.Views.{View, view_of}
use Rattle.office_replies.specs.Replies.{reply_to, view_text}
use Rattle.office_store.specs.Running.{IsCommitted, Represents, StateUnchanged}
use Rattle.office_desk.specs.Performing.{MayChange, MayCommitStep}

-- a message that asks for a command is one step of the office, and the reply is the step's answer;
-- any other message is refused, and the office is unchanged
abbrev pub RepliesTo : Result PlainCallerCommand Refusal → OfficeState → PlainReply → OfficeState
    → Type 0
RepliesTo (Ok asked) old reply new =
    (answer : PlainAnswer) × Steps old asked.caller asked.command answer new
    × (reply ≡ reply_to answer)
RepliesTo (Err refusal) old reply new = (new ≡ old) × (reply ≡ refusal_reply refusal)

-- the office replies so to a request, and goes from the first state to the second
abbrev pub Replies : OfficeState → PlainRequest → PlainReply → OfficeState → Type 0
Replies old request reply new =
    RepliesTo (command_or_refusal request.method request.target request.caller request.body)
    old reply new

-- the reply to an answer, or `unavailable` if memory runs out for an answer that shows something
abbrev pub IsReplyOf : PlainAnswer → PlainReply → Type 0
IsReplyOf answer reply =
    (reply ≡ reply_to answer) ⊎ ((has_stored_data answer ≡ true) × (reply ≡ unavailable))

-- the request was done: 200 or 201
abbrev pub IsDone : Status → Type 0
IsDone status.Done = Unit {0}
IsDone status.Created = Unit {0}
IsDone other = ⊥

-- the message asks for no command that may change the office
abbrev pub IsQuestion : Result PlainCallerCommand Refusal → Type 0
IsQuestion (Ok asked) = MayChange asked.command → ⊥
IsQuestion (Err refusal) = Unit {0}

-- what a later opening may find after this reply, beside what it might have found before: the office
-- after the step of a command that may change it and isn't refused
abbrev pub MayCommitReply : Result PlainCallerCommand Refusal → State → PlainReply → Trees → Type 0
MayCommitReply (Ok asked) old reply found =
    (answer : PlainAnswer) × IsReplyOf answer reply
    × MayCommitStep asked.caller asked.command old answer found
MayCommitReply (Err refusal) old reply found = ⊥

-- assuming the disk returns what was written, the office that the file represents gives this reply
-- to what a message asks; if that was done, the store is open and all writes are committed; a
-- question leaves every row as it was
pub record AnsweredTo {S : Type 0} (store : Ghosts S) (old : Held S)
    (asked : Result PlainCallerCommand Refusal) (reply : PlainReply) (new : Held S) : Type 0 where
  pub clean : HasCleanDisk (state store new) → HasCleanDisk (state store old)
  pub step : HasCleanDisk (state store new) → (office : OfficeState)
      → Represents (state store old) office
      → (next : OfficeState) × RepliesTo asked office reply next × Represents (state store new) next
  pub all_committed : HasCleanDisk (state store new) → IsDone reply.status
      → IsCommitted (state store new)
  pub unchanged : IsQuestion asked → HasCleanDisk (state store new)
      → StateUnchanged (state store old) (state store new)
  pub survives : Survives (state store old) (state store new)
      (MayCommitReply asked (state store old) reply)

-- the same, to a request
abbrev pub Answered : {S : Type 0} → Ghosts S → Held S → PlainRequest → PlainReply → Held S → Type 0
Answered store old request reply new =
    AnsweredTo store old
    (command_or_refusal request.method request.target request.caller request.body) reply new

-- ---- candidates

-- the text of a candidate's view that a command asks for; the denial if the message asks for none
-- of the candidate's pages
abbrev pub view_or_denial : ℕ → Option PlainCommand → View → PlainReply
view_or_denial s (Some command) view = view_text s command view
view_or_denial s None view = error_reply (Denied P1)

-- a candidate's message gets the text of their view in the office, or the reply that the office is
-- unavailable
abbrev pub RepliesCandidateView : OfficeState → PlainRequest → PlainReply → Type 0
RepliesCandidateView office request reply =
    (s : ℕ) → caller_in request.caller ≡ Some (Cand s)
    → (reply ≡ view_or_denial s (own_command (verb_of request.method) request.target)
    (view_of s office))
    ⊎ (reply ≡ unavailable)
