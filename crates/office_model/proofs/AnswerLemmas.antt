-- Answers that show something change nothing, and a candidate's answer follows from their view.
use Rattle.std.proofs.Common.{◌≡◌, ℕ, true, refl, ap, sym, ◌∙◌, inl, inr, true≢false}
use Rattle.exam_lists.proofs.Results.{IfOk_any}
use Rattle.exam_draft.specs.declared.edit.Edit.{Edit}
use Rattle.exam_draft.specs.declared.edit.Edit.TheVariants as edit
use Rattle.office_policy.specs.Commands.{PlainCommand, me, load, set_owner, new_draft, drop_draft}
use Rattle.office_policy.specs.Commands.{place, move, clear, swap, publish, batch}
use Rattle.office_policy.specs.declared.command.Body.TheVariants.{Given}
use Rattle.office_policy.specs.declared.callers.Caller.{Caller}
use Rattle.office_policy.specs.declared.callers.Caller.TheVariants.{Cand}
use Rattle.office_model.specs.Answers.{PlainAnswer, has_stored_data}
use Rattle.office_model.specs.Batches.{batch_enrolled}
use Rattle.office_model.specs.Candidates.{answer_to}
use Rattle.office_model.specs.Commands.{set_owner_result}
use Rattle.office_model.specs.DraftCommands.{draft_made, draft_dropped, draft_edited}
use Rattle.office_model.specs.Loading.{load_session}
use Rattle.office_model.specs.Publishing.{draft_published}
use Rattle.office_model.specs.Office.{OfficeState}
use Rattle.office_model.specs.Step.{Steps, step, Outcome}
use Rattle.office_model.specs.Views.{view_of}
use Rattle.office_model.proofs.StepLemmas.{EditKeeps, Keeps, step_law}

pub candidate_answer : (s : ℕ) (office : OfficeState) (command : PlainCommand)
    → step office (Cand s) command ≡ (office, answer_to s command (view_of s office))
candidate_answer s office me = refl
candidate_answer s office command = refl

pub same_answered : (s : ℕ) (one other : OfficeState) (command : PlainCommand)
    → view_of s one ≡ view_of s other
    → (step one (Cand s) command).1 ≡ (step other (Cand s) command).1
same_answered s one other command h =
    ap (λ (o : Outcome). o.1) (candidate_answer s one command) ∙ ap (answer_to s command) h
    ∙ sym (ap (λ (o : Outcome). o.1) (candidate_answer s other command))

-- no change has an answer that shows something
edits : (old : OfficeState) (d : ℕ) (change : Edit)
    → EditKeeps (λ new. new ≡ old) (λ answer. has_stored_data answer ≡ true) old d change
edits old d change = IfOk_any _ (draft_edited d change old) (λ x q. absurd (true≢false (sym q)))

shown : (old : OfficeState) (command : PlainCommand)
    → Keeps (λ new. new ≡ old) (λ answer. has_stored_data answer ≡ true) old command
shown old (load (Given bytes)) = IfOk_any _ (load_session bytes old) (λ x q. absurd (true≢false (sym q)))
shown old (set_owner exam (Given dept)) =
    IfOk_any _ (set_owner_result exam dept old) (λ x q. absurd (true≢false (sym q)))
shown old (new_draft d (Given bytes)) =
    IfOk_any _ (draft_made d bytes old) (λ x q. absurd (true≢false (sym q)))
shown old (drop_draft d) = IfOk_any _ (draft_dropped d old) (λ x q. absurd (true≢false (sym q)))
shown old (place d exam (Given at)) = edits old d (edit.Place exam at)
shown old (move d exam (Given to)) = edits old d (edit.Move exam to)
shown old (clear d exam) = edits old d (edit.Clear exam)
shown old (swap d a b) = edits old d (edit.Swap a b)
shown old (publish d) = IfOk_any _ (draft_published d old) (λ x q. absurd (true≢false (sym q)))
shown old (batch number (Given bytes)) =
    IfOk_any _ (batch_enrolled number bytes old) (λ x q. absurd (true≢false (sym q)))
shown old _ = tt

pub shown_stays : (old new : OfficeState) (caller : Caller) (command : PlainCommand)
    (answer : PlainAnswer) → Steps old caller command answer new → has_stored_data answer ≡ true → new ≡ old
shown_stays old new caller command answer (inl is) q =
    ap (λ (o : Outcome). o.0) is
    ∙ step_law (λ new. new ≡ old) (λ answer. has_stored_data answer ≡ true) old refl caller command
    (shown old command) (sym (ap (λ (o : Outcome). has_stored_data o.1) is) ∙ q)
shown_stays old new caller command answer (inr k) q = k.0
