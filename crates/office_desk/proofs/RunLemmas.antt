-- Judging and then performing a command is a step of the office.
use Rattle.std.proofs.Common.{◌≡◌, ◌∙◌, Err, Ok, Result, ap, inl, inr, refl, subst, sym}
use Rattle.sqlite.specs.Held.{Held, state}
use Rattle.sqlite.specs.State.{HasCleanDisk, Survives}
use Rattle.sqlite.specs.Store.{Ghosts}
use Rattle.sqlite.proofs.StateLemmas.{survives_then, survives_weaker}
use Rattle.sqlite_trees.specs.Tree.{Trees}
use Rattle.office_tables.specs.Alterations.{found_in}
use Rattle.office_policy.specs.Commands.{PlainCommand}
use Rattle.office_policy.specs.declared.callers.Caller.{Caller}
use Rattle.office_policy.specs.declared.policy.Denial.{Denial}
use Rattle.office_model.specs.Answers.{PlainAnswer, denied}
use Rattle.office_model.specs.Office.{OfficeState}
use Rattle.office_model.specs.Step.{Steps, allowed_in, if_allowed, permitted_outcome, step}
use Rattle.office_model.specs.declared.fault.StoreFault.{StoreFault}
use Rattle.office_records.specs.Representation.{RepresentsOffice}
use Rattle.office_store.specs.Leaving.{LeavesAsItWas}
use Rattle.office_store.specs.Running.{CallRan, QueryOutcome, Represents}
use Rattle.office_desk.specs.Answers.{refusal}
use Rattle.office_desk.specs.Performing.{AnswersOutcome, CommandAnswered, CommandPerformed}
use Rattle.office_desk.specs.Performing.{HoldsOutcome, MayCommitStep, answer_of}
use Rattle.office_desk.specs.declared.answer.Answer.{Answer}
use Rattle.office_desk.proofs.AnswerLemmas.{is_refusal}

-- a step after which the state represents the new office
abbrev pub StepsTo : OfficeState → Caller → PlainCommand → (OfficeState → Type 0) → PlainAnswer
    → Type 0
StepsTo old caller command Stays final_answer =
    (new : OfficeState) × Steps old caller command final_answer new × Stays new

-- performing a permitted command is a step
permitted_step : (old : OfficeState) (caller : Caller) (command : PlainCommand)
    (Stays : OfficeState → Type 0) (final_answer : PlainAnswer) → Ok tt
    ≡ allowed_in old caller command
    → AnswersOutcome (permitted_outcome old caller command) old Stays final_answer
    → StepsTo old caller command Stays final_answer
permitted_step old caller command Stays final_answer allowed (inl (same, stays)) =
    let outcome = permitted_outcome old caller command in (
      outcome.0,
      inl (ap (λ t. (outcome.0, t)) same ∙ ap (λ a. if_allowed a old caller command) allowed),
      stays,
    )
permitted_step old caller command Stays final_answer allowed (inr (same, stays)) =
    (old, inr (refl, same), stays)

-- ---- after the policy was asked

module _ {S : Type 0} (store : Ghosts S) (caller : Caller) (command : PlainCommand)
    (old mid : Held S) where
  -- a call returned so what the policy says
  abbrev Asked : Result (Result (Unit {0}) Denial) StoreFault → Type 0
  Asked result = CallRan store old mid (λ o.
      QueryOutcome (allowed_in o caller command) o (Represents (state store mid)) result)

  module _ (left : LeavesAsItWas store old mid) where
    -- nothing is committed while the policy is asked
    nothing_survives : (answer : PlainAnswer) → Survives (state store old) (state store mid)
        (MayCommitStep caller command (state store old) answer)
    nothing_survives answer = survives_weaker (state store old) (state store mid) (λ _. ⊥) _
        (λ _ db none. absurd none) left.survives

    -- a denied command changes nothing
    pub denied_answered : (said : Result (Unit {0}) Denial) (denial : Denial) → said ≡ Err denial
        → Asked (Ok said) → CommandAnswered store caller command old mid (denied denial)
    denied_answered said denial is asked = record {
      clean = asked.clean;
      step = λ clean office now.
          let read = asked.runs clean office now in
          (office, inl (ap (λ a. if_allowed a office caller command) (sym is ∙ read.0)), read.1);
      all_committed = λ clean. inl tt;
      unchanged = λ _. left.unchanged.unchanged;
      survives = nothing_survives (denied denial);
    }

    -- nothing is done if the policy can't be asked
    pub failed_answered : (fault : StoreFault) → Asked (Err fault)
        → CommandAnswered store caller command old mid (refusal fault)
    failed_answered fault asked = record {
      clean = asked.clean;
      step = λ clean office now.
          let read = asked.runs clean office now in
          (office, inr (refl, ap refusal read.0), read.1);
      all_committed = λ clean. inl (is_refusal fault);
      unchanged = λ _. left.unchanged.unchanged;
      survives = nothing_survives (refusal fault);
    }

    -- what a permitted command commits is the office after the command's step
    held_step : (said : Result (Unit {0}) Denial) → said ≡ Ok tt → Asked (Ok said)
        → HasCleanDisk (state store mid) → (found : Trees)
        → HoldsOutcome (λ office. permitted_outcome office caller command) (state store mid) found
        → HoldsOutcome (λ office. step office caller command) (state store old) found
    held_step said is asked clean found outcome =
        let was = left.unchanged.unchanged clean outcome.was_open in
        record {
          was_open = was.0;
          sound = outcome.sound;
          office = outcome.office;
          stood = subst (λ db. RepresentsOffice db outcome.office) was.1 outcome.stood;
          holds = λ there kept.
              let allowed = sym is ∙ (asked.runs clean there (λ _. kept)).0 in
              subst (λ a. RepresentsOffice (found_in found) (if_allowed a there caller command).0)
              allowed
              (outcome.holds there (subst (λ db. RepresentsOffice db there) (sym was.1) kept));
        }

    -- a permitted command is performed
    pub performed_answered : (new : Held S) (said : Result (Unit {0}) Denial) → said ≡ Ok tt
        → Asked (Ok said) → (result : Result Answer Answer)
        → CommandPerformed store caller command mid new result
        → CommandAnswered store caller command old new (answer_of result)
    performed_answered new said is asked result performed = record {
      clean = λ clean. asked.clean (performed.clean clean);
      step = λ clean office now.
          let read = asked.runs (performed.clean clean) office now in
          permitted_step office caller command (Represents (state store new)) (answer_of result)
          (sym is ∙ read.0) (performed.answers clean office read.1);
      all_committed = performed.all_committed;
      unchanged = λ shows clean opened.
          let now = performed.unchanged shows clean opened in
          let was = left.unchanged.unchanged (performed.clean clean) now.0 in
          (was.0, now.1 ∙ was.1);
      survives = survives_then (state store old) (state store mid) (state store new) (λ _. ⊥) _ _
          (λ _ db none. absurd none)
          (λ clean found may.
          (may.0, may.1, held_step said is asked (performed.clean clean) found may.2))
          left.survives performed.survives;
    }
