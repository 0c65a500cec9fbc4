-- One step of the office: the policy is judged, then the body, then the state.
use Rattle.std.specs.Prelude.{◌≡◌, ℕ, ◌⊎◌, List, Option, Some, None, option_map, Result, Ok, Err}
use Rattle.exam_terms.specs.Refusing.{◌>>=◌, else_err, unless}
use Rattle.exam_model.specs.Enrolments.{Enrolled}
use Rattle.exam_model.specs.Instance.{Session}
use Rattle.exam_model.specs.Timetable.{Placing}
use Rattle.exam_draft.specs.declared.edit.Edit.{Edit}
use Rattle.exam_draft.specs.declared.edit.Edit.TheVariants as edit
use Rattle.exam_draft.specs.declared.fault.EditFault.TheVariants.{NoSuch}
use Rattle.exam_draft.specs.Edits.{exam_exists}
use Rattle.exam_places.specs.declared.place_row.PlaceRow.{PlaceRow}
use Rattle.exam_places.specs.Places.{places_of}
use Rattle.exam_rules.specs.Breaches.{breaches_of}
use Rattle.exam_score.specs.Penalty.{total_of}
use Rattle.exam_score.specs.Track.{track}
use Rattle.office_files.specs.CanonicalText.{canonical_instance}
use Rattle.office_files.specs.CanonicalSolution.{canonical_solution}
use Rattle.office_policy.specs.Commands.{PlainCommand, me, my_exam, my_penalty, load, instance}
use Rattle.office_policy.specs.Commands.{set_owner, new_draft, draft, draft_penalty}
use Rattle.office_policy.specs.Commands.{draft_violations, draft_places, drop_draft, place, move}
use Rattle.office_policy.specs.Commands.{clear, swap, publish, publication, publication_penalty}
use Rattle.office_policy.specs.Commands.{publication_rooms, publication_seats, batch}
use Rattle.office_policy.specs.Policy.{kind_of, permits}
use Rattle.office_policy.specs.declared.callers.Caller.{Caller}
use Rattle.office_policy.specs.declared.callers.Caller.TheVariants.{Office, Dept, Cand}
use Rattle.office_policy.specs.declared.command.Body.{Body}
use Rattle.office_policy.specs.declared.command.Body.TheVariants.{Given, Bad, Long}
use Rattle.office_policy.specs.declared.policy.Denial.{Denial}
use Rattle.office_policy.specs.declared.policy.Kind.{Kind}
use Rattle.office_policy.specs.declared.policy.Kind.TheVariants.{Editing}
use Rattle.office_reports.specs.PlaceList.{places_text}
use Rattle.office_reports.specs.Reports.{penalty_text, violation_text}
use Rattle.office_reports.specs.Rooms.{rooms_text}
use Rattle.office_reports.specs.SeatList.{seats_text}
use Rattle.office_model.specs.Answers.{PlainAnswer, now_loaded, text, now_owned, now_drafted}
use Rattle.office_model.specs.Answers.{now_edited, now_dropped, shown_draft, now_published}
use Rattle.office_model.specs.Answers.{unpublished, now_enrolled, denied, bad_body, long_body}
use Rattle.office_model.specs.Answers.{refused, unavailable}
use Rattle.office_model.specs.Batches.{batch_enrolled}
use Rattle.office_model.specs.Candidates.{CandidateQuestion, whole, one, cost, candidate_answer}
use Rattle.office_model.specs.Commands.{CommandResult}
use Rattle.office_model.specs.DraftCommands.{draft_dropped, draft_edited, draft_made, draft_shown}
use Rattle.office_model.specs.Loading.{load_session}
use Rattle.office_model.specs.Commands.{set_owner_result, owner_in, session_shown, records_or_refusal}
use Rattle.office_model.specs.Office.{OfficeState, Publication, published_enrolments}
use Rattle.office_model.specs.Publishing.{draft_published}
use Rattle.office_model.specs.Views.{view_of}
use Rattle.office_model.specs.declared.fault.Refusal.TheVariants as refusal
use Rattle.office_model.specs.declared.fault.StoreFault.TheVariants.{NoDraft, Refused}

-- the office after a step, and the answer
abbrev pub Outcome : Type 0
Outcome = OfficeState × PlainAnswer

-- the answer with a command's result; or with its refusal, and then the office is unchanged
abbrev pub outcome : {A : Type 0} → (A → PlainAnswer) → OfficeState → CommandResult A → Outcome
outcome to_answer old (Ok given) = (given.1, to_answer given.0)
outcome to_answer old (Err fault) = (old, refused fault)

-- a body is judged before the state
abbrev pub with_body : {A : Type 0} → OfficeState → (A → Outcome) → Body A → Outcome
with_body old go (Given x) = go x
with_body old go Bad = (old, bad_body)
with_body old go Long = (old, long_body)

-- ---- commands that only read

-- a draft with the session and the live enrolments
abbrev pub draft_in_session : ℕ → OfficeState → CommandResult ((Session × Enrolled) × Placing)
draft_in_session d office = do
  r ← records_or_refusal office
  T ← else_err NoDraft (r.draft d)
  Ok (((r.session, r.enrolments), T), office)

-- the report of a draft's breaches
abbrev pub violations_of : (Session × Enrolled) × Placing → List ℕ
violations_of found = violation_text (breaches_of found.0.0 found.0.1 found.1)

-- the places of an exam of the session, in a draft with the live enrolments
abbrev pub draft_places_shown : ℕ → ℕ → OfficeState → CommandResult (List PlaceRow)
draft_places_shown d exam office = do
  found ← draft_in_session d office
  _ ← unless (exam_exists found.0.0.0 exam) (Refused (refusal.Edit NoSuch))
  Ok (places_of found.0.0.0 found.0.0.1 found.0.1 exam, found.1)

-- the session and its publication, if there is one
abbrev pub publication_in : OfficeState → Option (Session × Publication)
publication_in None = None
publication_in (Some r) = option_map (λ p. (r.session, p)) r.published

-- a text of the publication, if there is one
abbrev pub of_published : (Session → Publication → List ℕ) → Option (Session × Publication)
    → PlainAnswer
of_published to_text None = unpublished
of_published to_text (Some found) = text (to_text found.0 found.1)

-- the penalty of the publication with the enrolments at that time
abbrev pub published_penalty : Session → Publication → List ℕ
published_penalty I p = penalty_text (track I (published_enrolments I p) p.timetable)

-- the outcome of a permitted candidate's command
abbrev pub candidate_outcome : Caller → CandidateQuestion → OfficeState → Outcome
candidate_outcome Office asked old = (old, unavailable)
candidate_outcome (Dept d) asked old = (old, unavailable)
candidate_outcome (Cand s) asked old = (old, candidate_answer s asked (view_of s old))

-- ---- the commands

-- an edit's answer, and the office after it
abbrev pub edit_outcome : ℕ → Edit → OfficeState → Outcome
edit_outcome d change old = outcome (now_edited d) old (draft_edited d change old)

-- a command that the policy permits
abbrev pub permitted_outcome : OfficeState → Caller → PlainCommand → Outcome
permitted_outcome old caller me = candidate_outcome caller whole old
permitted_outcome old caller (my_exam n) = candidate_outcome caller (one n) old
permitted_outcome old caller my_penalty = candidate_outcome caller cost old
permitted_outcome old caller (load body) =
    with_body old (λ bytes. outcome now_loaded old (load_session bytes old)) body
permitted_outcome old caller instance =
    outcome (λ s. text (canonical_instance s.0 s.1)) old (session_shown old)
permitted_outcome old caller (set_owner exam body) =
    with_body old
    (λ dept. outcome (λ done. now_owned exam dept) old (set_owner_result exam dept old)) body
permitted_outcome old caller (new_draft d body) =
    with_body old (λ bytes. outcome (now_drafted d) old (draft_made d bytes old)) body
permitted_outcome old caller (draft d) =
    outcome (λ found. shown_draft d found.0 (total_of found.1)) old (draft_shown d old)
permitted_outcome old caller (draft_penalty d) =
    outcome (λ found. text (penalty_text found.1)) old (draft_shown d old)
permitted_outcome old caller (draft_violations d) =
    outcome (λ found. text (violations_of found)) old (draft_in_session d old)
permitted_outcome old caller (draft_places d exam) =
    outcome (λ rows. text (places_text rows)) old (draft_places_shown d exam old)
permitted_outcome old caller (drop_draft d) =
    outcome (λ done. now_dropped d) old (draft_dropped d old)
permitted_outcome old caller (place d exam body) =
    with_body old (λ at. edit_outcome d (edit.Place exam at) old) body
permitted_outcome old caller (move d exam body) =
    with_body old (λ to. edit_outcome d (edit.Move exam to) old) body
permitted_outcome old caller (clear d exam) = edit_outcome d (edit.Clear exam) old
permitted_outcome old caller (swap d a b) = edit_outcome d (edit.Swap a b) old
permitted_outcome old caller (publish d) = outcome (now_published d) old (draft_published d old)
permitted_outcome old caller publication =
    (old, of_published (λ I p. canonical_solution p.timetable) (publication_in old))
permitted_outcome old caller publication_penalty =
    (old, of_published published_penalty (publication_in old))
permitted_outcome old caller publication_rooms =
    (old, of_published (λ I p. rooms_text I p.timetable p.rows) (publication_in old))
permitted_outcome old caller publication_seats =
    (old, of_published (λ I p. seats_text p.rows) (publication_in old))
permitted_outcome old caller (batch number body) =
    with_body old (λ bytes. outcome (now_enrolled number) old (batch_enrolled number bytes old))
    body

-- the owners of the exams that a command of this kind edits; 0 if it edits none
abbrev pub owners_in : OfficeState → Kind → ℕ × ℕ
owners_in old (Editing a None) = (owner_in a old, 0)
owners_in old (Editing a (Some b)) = (owner_in a old, owner_in b old)
owners_in old kind = (0, 0)

-- the policy's decision about a command in this office
abbrev pub allowed_in : OfficeState → Caller → PlainCommand → Result (Unit {0}) Denial
allowed_in old caller command =
    permits caller command (owners_in old (kind_of command)).0 (owners_in old (kind_of command)).1

-- a command that the caller may not run is denied, in each state of the office
abbrev pub if_allowed : Result (Unit {0}) Denial → OfficeState → Caller → PlainCommand → Outcome
if_allowed (Ok done) old caller command = permitted_outcome old caller command
if_allowed (Err denial) old caller command = (old, denied denial)

-- one step
abbrev pub step : OfficeState → Caller → PlainCommand → Outcome
step old caller command = if_allowed (allowed_in old caller command) old caller command

-- a step, or nothing was done and the answer shows nothing
abbrev pub Steps : OfficeState → Caller → PlainCommand → PlainAnswer → OfficeState → Type 0
Steps old caller command answer new =
    ((new, answer) ≡ step old caller command) ⊎ ((new ≡ old) × (answer ≡ unavailable))
