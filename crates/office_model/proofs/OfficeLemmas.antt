-- The office after a step is an office.
use Rattle.std.proofs.Common.{◌≡◌, ℕ, ◌≤◌, List, [], ◌∷◌, length, Option, Some, None, Result, Ok, Err, IfOk, refl, sym, subst}
use Rattle.std.specs.Prelude.{IsSome, is_none, nat_le}
use Rattle.std.proofs.lemmas.Bool.{leb-true, ltb-true, and_parts}
use Rattle.std.proofs.lemmas.List.{length-replicate}
use Rattle.std.proofs.lemmas.List.Elements.{All-replicate}
use Rattle.exam_lists.proofs.Results.{IfOk_given}
use Rattle.exam_terms.specs.Refusing.{else_err, unless}
use Rattle.exam_model.specs.Enrolments.{Enrolled}
use Rattle.exam_model.specs.Fits.{Fits, PlaceExists}
use Rattle.exam_model.specs.Instance.{Session}
use Rattle.exam_model.specs.Timetable.{Placing, empty_timetable}
use Rattle.exam_draft.specs.Edits.{edit_result, exam_exists}
use Rattle.exam_draft.specs.declared.edit.Edit.{Edit}
use Rattle.exam_draft.specs.declared.edit.Edit.TheVariants as edit
use Rattle.exam_draft.specs.declared.fault.EditFault.TheVariants.{NoSuch}
use Rattle.exam_publish.specs.Permit.{publish_refusal}
use Rattle.office_files.specs.InstanceText.{instance_in}
use Rattle.office_files.specs.SolutionText.{solution_in}
use Rattle.office_files.proofs.InstanceLaws.{read_is_text}
use Rattle.office_files.proofs.LimitLaws.{enrolments_within, one_number, session_within, timetable_suits}
use Rattle.office_files.proofs.ReadingLaws.{bind_ok, unless_ok}
use Rattle.office_files.proofs.SolutionLaws.{solution_is_text}
use Rattle.office_policy.specs.Commands.{HasSmallNumbers, PlainCommand, me, my_exam, my_penalty, load, instance}
use Rattle.office_policy.specs.Commands.{set_owner, new_draft, draft, draft_penalty}
use Rattle.office_policy.specs.Commands.{draft_violations, draft_places, drop_draft, place, move}
use Rattle.office_policy.specs.Commands.{clear, swap}
use Rattle.office_policy.specs.Commands.{publish, publication, publication_penalty}
use Rattle.office_policy.specs.Commands.{publication_rooms, publication_seats, batch}
use Rattle.office_policy.specs.declared.callers.Caller.{Caller}
use Rattle.office_policy.specs.declared.command.Body.TheVariants.{Given, Bad, Long}
use Rattle.office_model.specs.Answers.{PlainAnswer, now_loaded, now_owned, now_drafted, now_edited}
use Rattle.office_model.specs.Answers.{now_dropped, now_published, now_enrolled}
use Rattle.office_model.specs.Batches.{batch_enrolled}
use Rattle.office_model.specs.Commands.{CommandResult}
use Rattle.office_model.specs.DraftCommands.{draft_dropped, draft_edited, draft_made, first_timetable, is_draft_number}
use Rattle.office_model.specs.Commands.{renamed_fault, set_owner_result}
use Rattle.office_model.specs.Loading.{load_session}
use Rattle.office_model.specs.Office.{AreRecords, IsOffice, OfficeState, Records}
use Rattle.office_model.specs.Publishing.{draft_published, unless_refused}
use Rattle.office_model.specs.Step.{step}
use Rattle.office_model.specs.declared.fault.Refusal.TheVariants as refusal
use Rattle.office_model.specs.declared.fault.StoreFault.{StoreFault}
use Rattle.office_model.specs.declared.fault.StoreFault.TheVariants.{DraftTaken, Loaded, NoDraft, Refused}
use Rattle.office_model.proofs.RecordLemmas.{are_enrolled, edited_fits, fresh_records, left_records, made_records, owner_records, published_records}
use Rattle.office_model.proofs.StepLemmas.{Keeps, step_law, whatever}

-- ---- what a judgement passes on

named_ok : {A F G : Type 0} (name : F → G) (r : Result A F) (x : A) → renamed_fault name r ≡ Ok x → r ≡ Ok x
named_ok name (Ok y) x is = cc
named_ok name (Err f) x is = absurd (cc is)

draft_is : (draft : Option Placing) (T : Placing) → else_err NoDraft draft ≡ Ok T → draft ≡ Some T
draft_is (Some S) T is = cc
draft_is None T is = absurd (cc is)

none_refused : {F : Type 0} (fault : Option F) (done : Unit {0}) → unless_refused fault ≡ Ok done
    → fault ≡ None
none_refused None done is = refl
none_refused (Some f) done is = absurd (cc is)

-- ---- the commands

-- the office after the command is an office, for each result
abbrev pub Leaves : {A : Type 0} → CommandResult A → Type 0
Leaves gives = IfOk gives (λ given. IsOffice given.1)

-- the result comes with this office
given_with : {A : Type 0} (given : A) (new : OfficeState) (x : A × OfficeState) → IsOffice new
    → ◌≡◌ {A = CommandResult A} (Ok (given, new)) (Ok x) → IsOffice x.1
given_with given new x is e =
    let same : (given, new) ≡ x = cc in
    subst (λ y. IsOffice y.1) same is

load_leaves : (bytes : List ℕ) (old : OfficeState) → Leaves (load_session bytes old)
load_leaves bytes old = IfOk_given _ (load_session bytes old) (λ x is.
    let read = renamed_fault (λ f. Refused (refusal.File f)) (instance_in bytes) in
    let one = bind_ok read _ x is in
    let two = bind_ok (unless (is_none old) Loaded) _ x one.2 in
    let I : Session = one.0.0 in
    let E : Enrolled = one.0.1 in
    let text = read_is_text bytes I E
    (named_ok (λ f. Refused (refusal.File f)) (instance_in bytes) one.0 one.1) in
    let session = session_within bytes I E text in
    let enrolled =
    are_enrolled I E (enrolments_within bytes I E text) (one_number bytes I E text) in
    given_with _ _ x (fresh_records I E session enrolled) two.2)

module _ (r : Records) (are : AreRecords r) where
  owner_leaves : (e d : ℕ) → d ≤ 999 → Leaves (set_owner_result e d (Some r))
  owner_leaves e d few = IfOk_given _ (set_owner_result e d (Some r)) (λ x is.
      let exists = exam_exists r.session e in
      let fault : StoreFault = Refused (refusal.Edit NoSuch) in
      let one = bind_ok (unless exists fault) _ x is in
      let within = ltb-true e (length r.session.exams) (unless_ok exists fault one.0 one.1) in
      given_with _ _ x (owner_records r e d within few are) one.2)

  draft_leaves : (d : ℕ) (bytes : List ℕ) → Leaves (draft_made d bytes (Some r))
  draft_leaves d bytes = IfOk_given _ (draft_made d bytes (Some r)) (λ x is.
      let one = bind_ok (unless (is_draft_number d) NoDraft) _ x is in
      let two = bind_ok (unless (is_none (r.draft d)) DraftTaken) _ x one.2 in
      let three = bind_ok (first_timetable bytes r.session) _ x two.2 in
      let number =
      and_parts (nat_le 1 d) (nat_le d 8) (unless_ok (is_draft_number d) NoDraft one.0 one.1) in
      let fits = first_fits bytes three.0 three.1 in
      given_with _ _ x
      (made_records r d three.0 (leb-true 1 d number.0) (leb-true d 8 number.1) fits are) three.2)
    where
      first_fits : (bytes : List ℕ) (T : Placing) → first_timetable bytes r.session ≡ Ok T
          → Fits r.session r.enrolments T
      first_fits [] T is =
          let same : empty_timetable (length r.session.exams) ≡ T = cc in
          subst (Fits r.session r.enrolments) same (record {
            enrolments = are.enrolled.exams;
            timetable = length-replicate (length r.session.exams) None;
            places = All-replicate (PlaceExists r.session) (length r.session.exams) None tt;
          })
      first_fits (b ∷ bytes) T is =
          let read = named_ok (λ f. Refused (refusal.File f))
          (solution_in r.session (b ∷ bytes)) T is in
          let suits = timetable_suits (b ∷ bytes) r.session T are.session
          (solution_is_text r.session (b ∷ bytes) T read) in
          record {
            enrolments = are.enrolled.exams;
            timetable = suits.exams;
            places = suits.places;
          }

  drop_leaves : (d : ℕ) → Leaves (draft_dropped d (Some r))
  drop_leaves d = IfOk_given _ (draft_dropped d (Some r)) (λ x is.
      let one = bind_ok (else_err NoDraft (r.draft d)) _ x is in
      given_with _ _ x (left_records r d are) one.2)

  edit_leaves : (d : ℕ) (change : Edit) → Leaves (draft_edited d change (Some r))
  edit_leaves d change = IfOk_given _ (draft_edited d change (Some r)) (λ x is.
      let one = bind_ok (else_err NoDraft (r.draft d)) _ x is in
      let said = edit_result r.session r.enrolments one.0 change in
      let two = bind_ok (renamed_fault (λ f. Refused (refusal.Edit f)) said) _ x one.2 in
      let there = draft_is (r.draft d) one.0 one.1 in
      let known = are.numbered d (subst IsSome (sym there) refl) in
      let fits = edited_fits r.session r.enrolments one.0 (are.drafts d one.0 there) change two.0
      (named_ok (λ f. Refused (refusal.Edit f)) said two.0 two.1) in
      given_with _ _ x (made_records r d two.0 known.0 known.1 fits are) two.2)

  publish_leaves : (d : ℕ) → Leaves (draft_published d (Some r))
  publish_leaves d = IfOk_given _ (draft_published d (Some r)) (λ x is.
      let one = bind_ok (else_err NoDraft (r.draft d)) _ x is in
      let refused = publish_refusal r.session r.enrolments one.0 in
      let two = bind_ok
      (renamed_fault (λ f. Refused (refusal.Publish f)) (unless_refused refused)) _ x one.2 in
      let there = draft_is (r.draft d) one.0 one.1 in
      let permitted = none_refused refused two.0
      (named_ok (λ f. Refused (refusal.Publish f)) (unless_refused refused) two.0 two.1) in
      given_with _ _ x (published_records r one.0 are (are.drafts d one.0 there) permitted) two.2)

-- ---- the step

abbrev any : PlainAnswer → Type 0
any answer = Unit {0}

-- the office after each command that is run is an office, if that after a batch is one
keeps : (old : OfficeState) (command : PlainCommand) → IsOffice old → HasSmallNumbers command
    → ((number : ℕ) (bytes : List ℕ) → number ≤ 999999999
    → Leaves (batch_enrolled number bytes old))
    → Keeps IsOffice any old command
keeps old (load (Given bytes)) is small batches =
    whatever IsOffice any now_loaded (load_session bytes old) (load_leaves bytes old)
keeps (Some r) (set_owner exam (Given dept)) is small batches =
    whatever IsOffice any (λ done. now_owned exam dept) (set_owner_result exam dept (Some r))
    (owner_leaves r is exam dept small.1)
keeps (Some r) (new_draft d (Given bytes)) is small batches =
    whatever IsOffice any (now_drafted d) (draft_made d bytes (Some r)) (draft_leaves r is d bytes)
keeps (Some r) (drop_draft d) is small batches =
    whatever IsOffice any (λ done. now_dropped d) (draft_dropped d (Some r)) (drop_leaves r is d)
keeps (Some r) (place d exam (Given at)) is small batches =
    whatever IsOffice any (now_edited d) (draft_edited d (edit.Place exam at) (Some r))
    (edit_leaves r is d (edit.Place exam at))
keeps (Some r) (move d exam (Given to)) is small batches =
    whatever IsOffice any (now_edited d) (draft_edited d (edit.Move exam to) (Some r))
    (edit_leaves r is d (edit.Move exam to))
keeps (Some r) (clear d exam) is small batches =
    whatever IsOffice any (now_edited d) (draft_edited d (edit.Clear exam) (Some r))
    (edit_leaves r is d (edit.Clear exam))
keeps (Some r) (swap d a b) is small batches =
    whatever IsOffice any (now_edited d) (draft_edited d (edit.Swap a b) (Some r))
    (edit_leaves r is d (edit.Swap a b))
keeps (Some r) (publish d) is small batches =
    whatever IsOffice any (now_published d) (draft_published d (Some r)) (publish_leaves r is d)
keeps old (batch number (Given bytes)) is small batches =
    whatever IsOffice any (now_enrolled number) (batch_enrolled number bytes old)
    (batches number bytes small)
keeps None (set_owner exam (Given dept)) is small batches = tt
keeps None (new_draft d (Given bytes)) is small batches = tt
keeps None (drop_draft d) is small batches = tt
keeps None (place d exam (Given at)) is small batches = tt
keeps None (move d exam (Given to)) is small batches = tt
keeps None (clear d exam) is small batches = tt
keeps None (swap d a b) is small batches = tt
keeps None (publish d) is small batches = tt
keeps old (load Bad) is small batches = tt
keeps old (load Long) is small batches = tt
keeps old (set_owner exam Bad) is small batches = tt
keeps old (set_owner exam Long) is small batches = tt
keeps old (new_draft d Bad) is small batches = tt
keeps old (new_draft d Long) is small batches = tt
keeps old (place d exam Bad) is small batches = tt
keeps old (place d exam Long) is small batches = tt
keeps old (move d exam Bad) is small batches = tt
keeps old (move d exam Long) is small batches = tt
keeps old (batch number Bad) is small batches = tt
keeps old (batch number Long) is small batches = tt
keeps old me is small batches = tt
keeps old (my_exam n) is small batches = tt
keeps old my_penalty is small batches = tt
keeps old instance is small batches = tt
keeps old (draft d) is small batches = tt
keeps old (draft_penalty d) is small batches = tt
keeps old (draft_violations d) is small batches = tt
keeps old (draft_places d exam) is small batches = tt
keeps old publication is small batches = tt
keeps old publication_penalty is small batches = tt
keeps old publication_rooms is small batches = tt
keeps old publication_seats is small batches = tt

pub step_leaves : (old : OfficeState) (caller : Caller) (command : PlainCommand) → IsOffice old
    → HasSmallNumbers command
    → ((number : ℕ) (bytes : List ℕ) → number ≤ 999999999
    → Leaves (batch_enrolled number bytes old))
    → IsOffice (step old caller command).0
step_leaves old caller command is small batches =
    step_law IsOffice any old is caller command (keeps old command is small batches) tt
