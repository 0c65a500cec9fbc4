-- The edit that a line of a list of places speaks of answers what the line says.
use Rattle.std.specs.Prelude.{Ok, Err}
use Rattle.std.proofs.Common.{◌≡◌, ◌<◌, ℕ, Bool, true, false, cond, length, Option, Some, None, refl, sym, ◌∙◌, ap, subst}
use Rattle.std.proofs.lemmas.Bool.{lt-ltb}
use Rattle.exam_terms.specs.Refusing.{◌>>=◌, else_err}
use Rattle.exam_terms.specs.declared.place.Place.{Place}
use Rattle.exam_model.specs.Enrolments.{Enrolled}
use Rattle.exam_model.specs.Instance.{Session}
use Rattle.exam_model.specs.Timetable.{Placing}
use Rattle.exam_draft.specs.declared.edit.Edit.{Edit}
use Rattle.exam_draft.specs.declared.edit.Edit.TheVariants as edit
use Rattle.exam_draft.specs.Edits.{Edited, edit_result, is_placed}
use Rattle.exam_places.specs.Answers.{Answered, answer_to, place}
use Rattle.exam_places.specs.Places.{PlaceAnswer, edit_answer, place_answer, place_row}
use Rattle.exam_places.proofs.AnswerLemmas.{answer_is_edit}
use Rattle.office_policy.specs.Commands.{draft_places, move, place as asked}
use Rattle.office_policy.specs.declared.callers.Caller.{Caller}
use Rattle.office_policy.specs.declared.command.Body.TheVariants.{Given}
use Rattle.office_model.specs.Answers.{PlainAnswer, now_edited, refused}
use Rattle.office_model.specs.Commands.{CommandResult, renamed_fault}
use Rattle.office_model.specs.DraftCommands.{live_penalty}
use Rattle.office_model.specs.Office.{OfficeState, Records, set_at}
use Rattle.office_model.specs.PlaceEdits.{line_answer, put_command}
use Rattle.office_model.specs.Step.{allowed_in, draft_in_session, edit_outcome, if_allowed, outcome, step}
use Rattle.office_model.specs.declared.fault.Refusal.TheVariants as refusal
use Rattle.office_model.specs.declared.fault.StoreFault.TheVariants.{NoDraft, Refused}

-- the answer of an edit with this result
abbrev edited_answer : ℕ → Answered → PlainAnswer
edited_answer d (Ok penalty) = now_edited d penalty
edited_answer d (Err fault) = refused (Refused (refusal.Edit fault))

line_edited : (d : ℕ) (said : PlaceAnswer) → edited_answer d (edit_answer said) ≡ line_answer d said
line_edited d (Ok penalty) = refl
line_edited d (Err breach) = refl

-- an edit of a draft answers by its result
result_answers : (d : ℕ) (r : Records) (T : Placing) (change : Edit) → r.draft d ≡ Some T
    → (edit_outcome d change (Some r)).1
    ≡ edited_answer d (answer_to r.session r.enrolments (edit_result r.session r.enrolments T change))
result_answers d r T change is = rw is (go (edit_result r.session r.enrolments T change))
  where
    go : (result : Edited)
        → (outcome (now_edited d) (Some r)
        (renamed_fault (λ f. Refused (refusal.Edit f)) result
        >>= (λ new. Ok (live_penalty r new, Some (record r { draft = set_at d (Some new) r.draft }))))).1
        ≡ edited_answer d (answer_to r.session r.enrolments result)
    go (Ok new) = refl
    go (Err fault) = refl

-- the edit of a draft that is there
of_draft : (caller : Caller) (r : Records) (T : Placing) (d e : ℕ) (at : Place)
    → allowed_in (Some r) caller (draft_places d e) ≡ Ok tt → r.draft d ≡ Some T
    → e < length r.session.exams → at.period < length r.session.periods
    → at.room < length r.session.rooms
    → (step (Some r) caller (put_command d T e at)).1
    ≡ line_answer d (place_answer r.session r.enrolments T e at)
of_draft caller r T d e at allowed is exam period room = go (is_placed T e) refl
  where
    I : Session
    I = r.session

    E : Enrolled
    E = r.enrolments

    answers : (b : Bool) → is_placed T e ≡ b
        → edited_answer d
        (answer_to I E (edit_result I E T (cond b (edit.Move e at) (edit.Place e at))))
        ≡ line_answer d (place_answer I E T e at)
    answers b placed =
        ap (λ c. edited_answer d
        (answer_to I E (edit_result I E T (cond c (edit.Move e at) (edit.Place e at))))) (sym placed)
        ∙ ap (edited_answer d) (answer_is_edit I E T e at (lt-ltb e (length I.exams) exam)
        (lt-ltb at.period (length I.periods) period) (lt-ltb at.room (length I.rooms) room))
        ∙ line_edited d (place_answer I E T e at)

    go : (b : Bool) → is_placed T e ≡ b
        → (step (Some r) caller (cond b (move d e (Given at)) (asked d e (Given at)))).1
        ≡ line_answer d (place_answer I E T e at)
    go true placed =
        ap (λ a. (if_allowed a (Some r) caller (move d e (Given at))).1) allowed
        ∙ result_answers d r T (edit.Move e at) is ∙ answers true placed
    go false placed =
        ap (λ a. (if_allowed a (Some r) caller (asked d e (Given at))).1) allowed
        ∙ result_answers d r T (edit.Place e at) is ∙ answers false placed

-- what is shown, or else what is passed
abbrev shown_or : CommandResult ((Session × Enrolled) × Placing) → (Session × Enrolled) × Placing
    → (Session × Enrolled) × Placing
shown_or (Ok x) other = x.0
shown_or (Err fault) other = other

-- the edit answers what the line says, for what is shown of a draft
abbrev IsAnswered : Records → Caller → ℕ → ℕ → ℕ → ℕ → (Session × Enrolled) × Placing → Type 0
IsAnswered records caller d e p r s =
    e < length s.0.0.exams → p < length s.0.0.periods → r < length s.0.0.rooms
    → (step (Some records) caller (put_command d s.1 e (place p r))).1
    ≡ line_answer d (place_answer s.0.0 s.0.1 s.1 e (place p r))

-- the session with a draft, if it is there
abbrev found_in : Records → Option Placing → CommandResult ((Session × Enrolled) × Placing)
found_in r t = else_err NoDraft t >>= (λ T. Ok (((r.session, r.enrolments), T), Some r))

pub line_is_edit : (office : OfficeState) (caller : Caller) (I : Session) (E : Enrolled)
    (T : Placing) (d e p r : ℕ)
    → allowed_in office caller (draft_places d e) ≡ Ok tt
    → draft_in_session d office ≡ Ok (((I, E), T), office)
    → e < length I.exams → p < length I.periods → r < length I.rooms
    → (step office caller (put_command d T e (place p r))).1
    ≡ line_answer d (place_row I E T e p r).answer
line_is_edit None caller I E T d e p r allowed there exam period room = absurd (cc)
line_is_edit (Some records) caller I E T d e p r allowed there exam period room =
    go (records.draft d) refl there exam period room
  where
    go : (t : Option Placing) → records.draft d ≡ t
        → found_in records t ≡ Ok (((I, E), T), Some records)
        → e < length I.exams → p < length I.periods → r < length I.rooms
        → (step (Some records) caller (put_command d T e (place p r))).1
        ≡ line_answer d (place_answer I E T e (place p r))
    go None is says = absurd (cc)
    go (Some U) is says =
        subst (IsAnswered records caller d e p r)
        (ap (λ g. shown_or g ((records.session, records.enrolments), U)) says)
        (of_draft caller records U d e (place p r) allowed is)
