-- A command that shows something changes nothing.
use Rattle.std.proofs.Common.{◌≡◌, ℕ, List, Option, Some, None, refl}
use Rattle.std.specs.Prelude.{Ok, Err, IfOk}
use Rattle.exam_terms.specs.Refusing.{◌>>=◌, else_err, unless}
use Rattle.exam_model.specs.Enrolments.{Enrolled}
use Rattle.exam_model.specs.Instance.{Session}
use Rattle.exam_model.specs.Timetable.{Placing}
use Rattle.exam_draft.specs.Edits.{exam_exists}
use Rattle.exam_draft.specs.declared.fault.EditFault.TheVariants.{NoSuch}
use Rattle.exam_places.specs.Places.{places_of}
use Rattle.exam_places.specs.declared.place_row.PlaceRow.{PlaceRow}
use Rattle.office_model.specs.Answers.{PlainAnswer}
use Rattle.office_model.specs.Commands.{CommandResult, session_shown}
use Rattle.office_model.specs.DraftCommands.{draft_shown}
use Rattle.office_model.specs.Office.{OfficeState}
use Rattle.office_model.specs.Step.{outcome, draft_in_session, draft_places_shown}
use Rattle.office_model.specs.declared.fault.Refusal.TheVariants as refusal
use Rattle.office_model.specs.declared.fault.StoreFault.TheVariants.{NoDraft, Refused}
use Rattle.office_model.proofs.CommandLemmas.{bind}

-- if a result leaves the office unchanged, so does the outcome
still : {A : Type 0} (to_answer : A → PlainAnswer) (old : OfficeState) (gives : CommandResult A)
    → IfOk gives (λ x. x.1 ≡ old) → (outcome to_answer old gives).0 ≡ old
still to_answer old (Ok x) h = h
still to_answer old (Err fault) h = refl

session_same : (old : OfficeState) → IfOk (session_shown old) (λ x. x.1 ≡ old)
session_same None = tt
session_same (Some r) = refl

draft_same : (d : ℕ) (old : OfficeState) → IfOk (draft_shown d old) (λ x. x.1 ≡ old)
draft_same d None = tt
draft_same d (Some r) = bind (λ x. x.1 ≡ Some r) (else_err NoDraft (r.draft d)) _ (λ T. refl)

in_session_same : (d : ℕ) (old : OfficeState) → IfOk (draft_in_session d old) (λ x. x.1 ≡ old)
in_session_same d None = tt
in_session_same d (Some r) = bind (λ x. x.1 ≡ Some r) (else_err NoDraft (r.draft d)) _ (λ T. refl)

places_same : (d exam : ℕ) (old : OfficeState)
    → IfOk (draft_places_shown d exam old) (λ x. x.1 ≡ old)
places_same d exam None = tt
places_same d exam (Some r) = go (r.draft d)
  where
    go : (o : Option Placing)
        → IfOk {T = List PlaceRow × OfficeState} (else_err NoDraft o >>= (λ T. Ok (((r.session, r.enrolments), T), Some r))
        >>= (λ (found : ((Session × Enrolled) × Placing) × OfficeState).
        unless (exam_exists found.0.0.0 exam) (Refused (refusal.Edit NoSuch))
        >>= (λ _. Ok (places_of found.0.0.0 found.0.0.1 found.0.1 exam, found.1))))
        (λ x. x.1 ≡ Some r)
    go None = tt
    go (Some T) = bind (λ x. x.1 ≡ Some r)
        (unless (exam_exists r.session exam) (Refused (refusal.Edit NoSuch))) _ (λ done. refl)

module _ (old : OfficeState) where
  pub session_stays : (to_answer : _ → PlainAnswer) → (outcome to_answer old (session_shown old)).0
      ≡ old
  session_stays to_answer = still to_answer old (session_shown old) (session_same old)

  pub draft_stays : (to_answer : _ → PlainAnswer) (d : ℕ)
      → (outcome to_answer old (draft_shown d old)).0 ≡ old
  draft_stays to_answer d = still to_answer old (draft_shown d old) (draft_same d old)

  pub in_session_stays : (to_answer : _ → PlainAnswer) (d : ℕ)
      → (outcome to_answer old (draft_in_session d old)).0 ≡ old
  in_session_stays to_answer d = still to_answer old (draft_in_session d old)
      (in_session_same d old)

  pub places_stay : (to_answer : _ → PlainAnswer) (d exam : ℕ)
      → (outcome to_answer old (draft_places_shown d exam old)).0 ≡ old
  places_stay to_answer d exam = still to_answer old (draft_places_shown d exam old)
      (places_same d exam old)
