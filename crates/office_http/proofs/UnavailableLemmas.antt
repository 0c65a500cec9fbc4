-- A request whose reply is a 503 changes nothing.
use Rattle.std.proofs.Common.{◌≡◌, ◌∙◌, ℕ, true, Result, Ok, Err, ap, inl, inr, refl, sym, true≢false}
use Rattle.std.specs.Prelude.{◌==◌}
use Rattle.std.proofs.lemmas.Bool.{eq-eqb}
use Rattle.exam_lists.proofs.Results.{IfOk_any}
use Rattle.exam_draft.specs.declared.edit.Edit.{Edit}
use Rattle.exam_draft.specs.declared.edit.Edit.TheVariants as edit
use Rattle.office_messages.specs.Reply.{PlainReply}
use Rattle.office_messages.specs.Statuses.{code_of}
use Rattle.office_messages.specs.Stream.{PlainRequest}
use Rattle.office_policy.specs.Commands.{PlainCommand, load, set_owner, new_draft, drop_draft}
use Rattle.office_policy.specs.Commands.{place, move, clear, swap, publish, batch}
use Rattle.office_policy.specs.declared.command.Body.TheVariants.{Given}
use Rattle.office_requests.specs.Requests.{PlainCallerCommand, command_or_refusal}
use Rattle.office_requests.specs.declared.requests.Refusal.{Refusal}
use Rattle.office_model.specs.Answers.{PlainAnswer}
use Rattle.office_model.specs.Batches.{batch_enrolled}
use Rattle.office_model.specs.Commands.{set_owner_result}
use Rattle.office_model.specs.DraftCommands.{draft_made, draft_dropped, draft_edited}
use Rattle.office_model.specs.Loading.{load_session}
use Rattle.office_model.specs.Office.{OfficeState}
use Rattle.office_model.specs.Publishing.{draft_published}
use Rattle.office_model.specs.Step.{Outcome}
use Rattle.office_model.proofs.StepLemmas.{EditKeeps, Keeps, step_law}
use Rattle.office_replies.specs.Replies.{reply_to}
use Rattle.office_http.specs.Replying.{Replies, RepliesTo}

-- the reply to the answer is a 503
abbrev Is503 : PlainAnswer → Type 0
Is503 answer = (code_of (reply_to answer).status == 503) ≡ true

-- the reply to a change that was made is never a 503
edits : (old : OfficeState) (d : ℕ) (change : Edit)
    → EditKeeps (λ new. new ≡ old) Is503 old d change
edits old d change = IfOk_any _ (draft_edited d change old) (λ x q. absurd (true≢false (sym q)))

changes : (old : OfficeState) (command : PlainCommand)
    → Keeps (λ new. new ≡ old) Is503 old command
changes old (load (Given bytes)) =
    IfOk_any _ (load_session bytes old) (λ x q. absurd (true≢false (sym q)))
changes old (set_owner exam (Given dept)) =
    IfOk_any _ (set_owner_result exam dept old) (λ x q. absurd (true≢false (sym q)))
changes old (new_draft d (Given bytes)) =
    IfOk_any _ (draft_made d bytes old) (λ x q. absurd (true≢false (sym q)))
changes old (drop_draft d) = IfOk_any _ (draft_dropped d old) (λ x q. absurd (true≢false (sym q)))
changes old (place d exam (Given at)) = edits old d (edit.Place exam at)
changes old (move d exam (Given to)) = edits old d (edit.Move exam to)
changes old (clear d exam) = edits old d (edit.Clear exam)
changes old (swap d a b) = edits old d (edit.Swap a b)
changes old (publish d) = IfOk_any _ (draft_published d old) (λ x q. absurd (true≢false (sym q)))
changes old (batch number (Given bytes)) =
    IfOk_any _ (batch_enrolled number bytes old) (λ x q. absurd (true≢false (sym q)))
changes old _ = tt

-- the command that a message asks for, if it is not refused unread
leaves_by : (said : Result PlainCallerCommand Refusal) (old new : OfficeState) (reply : PlainReply)
    → RepliesTo said old reply new → code_of reply.status ≡ 503 → new ≡ old
leaves_by (Err refusal) old new reply trace is = trace.0
leaves_by (Ok asked) old new reply (answer, step, trace) is = elim step [
  | inl same ↦
      let code = ap (λ (o : Outcome). code_of (reply_to o.1).status) same in
      let number = sym (ap (λ (r : PlainReply). code_of r.status) trace ∙ code) ∙ is in
      ap (λ (o : Outcome). o.0) same
      ∙ step_law (λ new. new ≡ old) Is503 old refl asked.caller asked.command
      (changes old asked.command) (eq-eqb _ 503 number)
  | inr h ↦ h.0
]

pub unavailable_leaves : (old new : OfficeState) (request : PlainRequest) (reply : PlainReply)
    → Replies old request reply new → code_of reply.status ≡ 503 → new ≡ old
unavailable_leaves old new request reply trace is =
    leaves_by (command_or_refusal request.method request.target request.caller request.body) old new reply
    trace
    is
