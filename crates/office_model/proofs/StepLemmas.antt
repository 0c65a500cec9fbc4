-- The invariants of one step, by its cases.
use Rattle.std.proofs.Common.{◌≡◌, ℕ, sym, subst}
use Rattle.std.specs.Prelude.{Result, Ok, Err, IfOk}
use Rattle.exam_draft.specs.declared.edit.Edit.{Edit}
use Rattle.exam_draft.specs.declared.edit.Edit.TheVariants as edit
use Rattle.office_policy.specs.Commands.{PlainCommand, me, my_exam, my_penalty, load, instance}
use Rattle.office_policy.specs.Commands.{set_owner, new_draft, draft, draft_penalty}
use Rattle.office_policy.specs.Commands.{draft_violations, draft_places, drop_draft, place, move}
use Rattle.office_policy.specs.Commands.{clear, swap, publish, publication, publication_penalty}
use Rattle.office_policy.specs.Commands.{publication_rooms, publication_seats, batch}
use Rattle.office_policy.specs.declared.callers.Caller.{Caller}
use Rattle.office_policy.specs.declared.callers.Caller.TheVariants.{Office, Dept, Cand}
use Rattle.office_policy.specs.declared.command.Body.TheVariants.{Given, Bad, Long}
use Rattle.office_policy.specs.declared.policy.Denial.{Denial}
use Rattle.office_model.specs.Answers.{PlainAnswer, now_loaded, now_owned, now_drafted, now_edited}
use Rattle.office_model.specs.Answers.{now_dropped, now_published, now_enrolled}
use Rattle.office_model.specs.Batches.{batch_enrolled}
use Rattle.office_model.specs.Candidates.{CandidateQuestion, whole, one, cost}
use Rattle.office_model.specs.Commands.{CommandResult, set_owner_result}
use Rattle.office_model.specs.DraftCommands.{draft_made, draft_dropped, draft_edited}
use Rattle.office_model.specs.Loading.{load_session}
use Rattle.office_model.specs.Office.{OfficeState}
use Rattle.office_model.specs.Publishing.{draft_published}
use Rattle.office_model.specs.Step.{outcome, candidate_outcome, permitted_outcome, if_allowed, allowed_in, step}
use Rattle.office_model.proofs.CommandLemmas.{Frames, owned_frame, made_frame, dropped_frame}
use Rattle.office_model.proofs.CommandLemmas.{edited_frame}
use Rattle.office_model.proofs.ShownLemmas.{session_stays, draft_stays, in_session_stays, places_stay}

-- P stays true if the answer allows it
outcome_law : {A : Type 0} (P : OfficeState → Type 0) (Q : PlainAnswer → Type 0)
    (to_answer : A → PlainAnswer) (old : OfficeState) (g : CommandResult A)
    → P old → IfOk g (λ x. Q (to_answer x.0) → P x.1) → Q (outcome to_answer old g).1
    → P (outcome to_answer old g).0
outcome_law P Q to_answer old (Ok x) here h q = h q
outcome_law P Q to_answer old (Err fault) here h q = here

pub whatever : {A : Type 0} (P : OfficeState → Type 0) (Q : PlainAnswer → Type 0)
    (to_answer : A → PlainAnswer) (g : CommandResult A) → IfOk g (λ x. P x.1)
    → IfOk g (λ x. Q (to_answer x.0) → P x.1)
whatever P Q to_answer (Ok x) h = λ q. h
whatever P Q to_answer (Err fault) h = tt

answer_law : (P : OfficeState → Type 0) (caller : Caller) (asked : CandidateQuestion)
    (old : OfficeState)
    → P old → P (candidate_outcome caller asked old).0
answer_law P Office asked old here = here
answer_law P (Dept d) asked old here = here
answer_law P (Cand s) asked old here = here

-- P stays true after a change that the answer allows
abbrev pub EditKeeps : (OfficeState → Type 0) → (PlainAnswer → Type 0) → OfficeState → ℕ → Edit
    → Type 0
EditKeeps P Q old d change =
    IfOk (draft_edited d change old) (λ x. Q (now_edited d x.0) → P x.1)

abbrev pub Keeps : (OfficeState → Type 0) → (PlainAnswer → Type 0) → OfficeState → PlainCommand
    → Type 0
Keeps P Q old (load (Given bytes)) =
    IfOk (load_session bytes old) (λ x. Q (now_loaded x.0) → P x.1)
Keeps P Q old (set_owner exam (Given dept)) =
    IfOk (set_owner_result exam dept old) (λ x. Q (now_owned exam dept) → P x.1)
Keeps P Q old (new_draft d (Given bytes)) =
    IfOk (draft_made d bytes old) (λ x. Q (now_drafted d x.0) → P x.1)
Keeps P Q old (drop_draft d) = IfOk (draft_dropped d old) (λ x. Q (now_dropped d) → P x.1)
Keeps P Q old (place d exam (Given at)) = EditKeeps P Q old d (edit.Place exam at)
Keeps P Q old (move d exam (Given to)) = EditKeeps P Q old d (edit.Move exam to)
Keeps P Q old (clear d exam) = EditKeeps P Q old d (edit.Clear exam)
Keeps P Q old (swap d a b) = EditKeeps P Q old d (edit.Swap a b)
Keeps P Q old (publish d) = IfOk (draft_published d old) (λ x. Q (now_published d x.0) → P x.1)
Keeps P Q old (batch number (Given bytes)) =
    IfOk (batch_enrolled number bytes old) (λ x. Q (now_enrolled number x.0) → P x.1)
Keeps P Q old _ = Unit {0}

module _ (P : OfficeState → Type 0) (Q : PlainAnswer → Type 0) (old : OfficeState) (here : P old)
  where
    back : (new : OfficeState) → new ≡ old → P new
    back new e = subst P (sym e) here

    edited_law : (d : ℕ) (change : Edit) → EditKeeps P Q old d change
        → Q (outcome (now_edited d) old (draft_edited d change old)).1
        → P (outcome (now_edited d) old (draft_edited d change old)).0
    edited_law d change h q =
        outcome_law P Q (now_edited d) old (draft_edited d change old) here h q

    permitted_law : (caller : Caller) (command : PlainCommand) → Keeps P Q old command
        → Q (permitted_outcome old caller command).1 → P (permitted_outcome old caller command).0
    permitted_law caller me h q = answer_law P caller whole old here
    permitted_law caller (my_exam n) h q = answer_law P caller (one n) old here
    permitted_law caller my_penalty h q = answer_law P caller cost old here
    permitted_law caller (load (Given bytes)) h q =
        outcome_law P Q now_loaded old (load_session bytes old) here h q
    permitted_law caller (load Bad) h q = here
    permitted_law caller (load Long) h q = here
    permitted_law caller instance h q = back _ (session_stays old _)
    permitted_law caller (set_owner exam (Given dept)) h q =
        outcome_law P Q (λ done. now_owned exam dept) old (set_owner_result exam dept old) here h q
    permitted_law caller (set_owner exam Bad) h q = here
    permitted_law caller (set_owner exam Long) h q = here
    permitted_law caller (new_draft d (Given bytes)) h q =
        outcome_law P Q (now_drafted d) old (draft_made d bytes old) here h q
    permitted_law caller (new_draft d Bad) h q = here
    permitted_law caller (new_draft d Long) h q = here
    permitted_law caller (draft d) h q = back _ (draft_stays old _ d)
    permitted_law caller (draft_penalty d) h q = back _ (draft_stays old _ d)
    permitted_law caller (draft_violations d) h q = back _ (in_session_stays old _ d)
    permitted_law caller (draft_places d exam) h q = back _ (places_stay old _ d exam)
    permitted_law caller (drop_draft d) h q =
        outcome_law P Q (λ done. now_dropped d) old (draft_dropped d old) here h q
    permitted_law caller (place d exam (Given at)) h q = edited_law d (edit.Place exam at) h q
    permitted_law caller (place d exam Bad) h q = here
    permitted_law caller (place d exam Long) h q = here
    permitted_law caller (move d exam (Given to)) h q = edited_law d (edit.Move exam to) h q
    permitted_law caller (move d exam Bad) h q = here
    permitted_law caller (move d exam Long) h q = here
    permitted_law caller (clear d exam) h q = edited_law d (edit.Clear exam) h q
    permitted_law caller (swap d a b) h q = edited_law d (edit.Swap a b) h q
    permitted_law caller (publish d) h q =
        outcome_law P Q (now_published d) old (draft_published d old) here h q
    permitted_law caller publication h q = here
    permitted_law caller publication_penalty h q = here
    permitted_law caller publication_rooms h q = here
    permitted_law caller publication_seats h q = here
    permitted_law caller (batch number (Given bytes)) h q =
        outcome_law P Q (now_enrolled number) old (batch_enrolled number bytes old) here h q
    permitted_law caller (batch number Bad) h q = here
    permitted_law caller (batch number Long) h q = here

    allowed_law : (allowed : Result (Unit {0}) Denial) (caller : Caller) (command : PlainCommand)
        → Keeps P Q old command → Q (if_allowed allowed old caller command).1
        → P (if_allowed allowed old caller command).0
    allowed_law (Ok done) caller command h q = permitted_law caller command h q
    allowed_law (Err denial) caller command h q = here

    -- a fact about an office stays true after a step, if it stays true after each change that the
    -- answer allows
    pub step_law : (caller : Caller) (command : PlainCommand) → Keeps P Q old command
        → Q (step old caller command).1 → P (step old caller command).0
    step_law caller command h q = allowed_law (allowed_in old caller command) caller command h q

-- ---- P stays true with other owners and drafts

-- P stays true after a load, a publication or a batch that the answer allows
abbrev pub KeepsRest : (OfficeState → Type 0) → (PlainAnswer → Type 0) → OfficeState → PlainCommand
    → Type 0
KeepsRest P Q old (load (Given bytes)) =
    IfOk (load_session bytes old) (λ x. Q (now_loaded x.0) → P x.1)
KeepsRest P Q old (publish d) =
    IfOk (draft_published d old) (λ x. Q (now_published d x.0) → P x.1)
KeepsRest P Q old (batch number (Given bytes)) =
    IfOk (batch_enrolled number bytes old) (λ x. Q (now_enrolled number x.0) → P x.1)
KeepsRest P Q old _ = Unit {0}

module _ (P : OfficeState → Type 0) (Q : PlainAnswer → Type 0) (old : OfficeState)
    (frame : Frames P old) where
  edits : (d : ℕ) (change : Edit) → EditKeeps P Q old d change
  edits d change =
      whatever P Q (now_edited d) (draft_edited d change old) (edited_frame P d change old frame)

  pub framed_keeps : (command : PlainCommand) → KeepsRest P Q old command → Keeps P Q old command
  framed_keeps me h = tt
  framed_keeps (my_exam n) h = tt
  framed_keeps my_penalty h = tt
  framed_keeps (load (Given bytes)) h = h
  framed_keeps (load Bad) h = tt
  framed_keeps (load Long) h = tt
  framed_keeps instance h = tt
  framed_keeps (set_owner exam (Given dept)) h =
      whatever P Q (λ done. now_owned exam dept) (set_owner_result exam dept old)
      (owned_frame P exam dept old frame)
  framed_keeps (set_owner exam Bad) h = tt
  framed_keeps (set_owner exam Long) h = tt
  framed_keeps (new_draft d (Given bytes)) h =
      whatever P Q (now_drafted d) (draft_made d bytes old) (made_frame P d bytes old frame)
  framed_keeps (new_draft d Bad) h = tt
  framed_keeps (new_draft d Long) h = tt
  framed_keeps (draft d) h = tt
  framed_keeps (draft_penalty d) h = tt
  framed_keeps (draft_violations d) h = tt
  framed_keeps (draft_places d exam) h = tt
  framed_keeps (drop_draft d) h =
      whatever P Q (λ done. now_dropped d) (draft_dropped d old) (dropped_frame P d old frame)
  framed_keeps (place d exam (Given at)) h = edits d (edit.Place exam at)
  framed_keeps (place d exam Bad) h = tt
  framed_keeps (place d exam Long) h = tt
  framed_keeps (move d exam (Given to)) h = edits d (edit.Move exam to)
  framed_keeps (move d exam Bad) h = tt
  framed_keeps (move d exam Long) h = tt
  framed_keeps (clear d exam) h = edits d (edit.Clear exam)
  framed_keeps (swap d a b) h = edits d (edit.Swap a b)
  framed_keeps (publish d) h = h
  framed_keeps publication h = tt
  framed_keeps publication_penalty h = tt
  framed_keeps publication_rooms h = tt
  framed_keeps publication_seats h = tt
  framed_keeps (batch number (Given bytes)) h = h
  framed_keeps (batch number Bad) h = tt
  framed_keeps (batch number Long) h = tt
