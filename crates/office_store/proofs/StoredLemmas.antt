-- A draft that is shown from memory: its timetable, its penalty, its breaches and an exam's places.
use Rattle.std.proofs.Common.{◌≡◌, ℕ, true, false, List, Some, None, Ok, Err, refl, sym, ◌∙◌, ap}
use Rattle.std.specs.Prelude.{is_some}
use Rattle.sqlite.specs.Effect.{Database}
use Rattle.exam_model.specs.Enrolments.{Enrolled}
use Rattle.exam_model.specs.Instance.{Session}
use Rattle.exam_model.specs.Timetable.{Placing}
use Rattle.exam_draft.specs.Edits.{exam_exists}
use Rattle.exam_draft.specs.declared.fault.EditFault.TheVariants.{NoSuch}
use Rattle.exam_places.specs.Places.{places_of}
use Rattle.exam_places.specs.declared.place_row.PlaceRow.{PlaceRow}
use Rattle.exam_rules.specs.Breaches.{breaches_of}
use Rattle.exam_rules.specs.declared.breach.Breach.{Breach}
use Rattle.exam_score.specs.Track.{track}
use Rattle.office_model.specs.Commands.{CommandResult}
use Rattle.office_model.specs.DraftCommands.{draft_shown}
use Rattle.office_model.specs.Office.{OfficeState, Records}
use Rattle.office_model.specs.Step.{draft_places_shown}
use Rattle.office_model.specs.declared.fault.Refusal.TheVariants as refusal
use Rattle.office_model.specs.declared.fault.StoreFault.TheVariants.{NoDraft, Refused}
use Rattle.office_records.specs.Memory.{draft_at}
use Rattle.office_records.specs.declared.drafts.Draft.{Draft}
use Rattle.office_store.specs.Judging.{draft_judged}
use Rattle.office_store.specs.Memory.{IsMemoryOf}
use Rattle.office_store.specs.Pricing.{penalty_shown}
use Rattle.office_store.specs.Running.{CommandOutcome}
use Rattle.office_store.specs.declared.memory.OfficeMemory.{OfficeMemory}
use Rattle.office_store.proofs.CommandLemmas.{Denies}
use Rattle.office_store.proofs.EditCallLemmas.{both, no_draft, there_of}

-- no draft has this number
pub none_denied : {A : Type 0} (command : OfficeState → CommandResult A) {a : Database}
    {m : OfficeMemory} (d : ℕ) → is_some m.kept ≡ true → draft_at m.drafts d ≡ None
    → ((r : Records) → r.draft d ≡ None → command (Some r) ≡ Err NoDraft) → Denies command NoDraft a m
none_denied command d loaded none refuses None kept is =
    absurd (let empty : false ≡ true = ap is_some is.session ∙ loaded in cc)
none_denied command d loaded none refuses (Some r) kept is =
    refuses r (no_draft d r (sym (is.drafts d) ∙ none))

module _ (d : ℕ) {m : OfficeMemory} {draft : Draft} (at : draft_at m.drafts d ≡ Some draft) where
  pub in_memory_shown : {T : Placing} → T ≡ draft.timetable → (o : OfficeState) → IsMemoryOf o m
      → CommandOutcome (draft_shown d o) o (λ new. new ≡ o) (Ok (T, draft.parts))
  in_memory_shown same None is = absurd (let none = sym (is.drafts d) ∙ at in cc)
  in_memory_shown same (Some r) is =
      let there = there_of d r draft (sym (is.drafts d) ∙ at) in
      (Some r, rw (there.timetable, same, there.scored) refl, refl)

  pub in_memory_priced : (o : OfficeState) → IsMemoryOf o m
      → CommandOutcome (penalty_shown d o) o (λ new. new ≡ o) (Ok draft.parts)
  in_memory_priced None is = absurd (let none = sym (is.drafts d) ∙ at in cc)
  in_memory_priced (Some r) is =
      let there = there_of d r draft (sym (is.drafts d) ∙ at) in
      (Some r, rw (there.timetable, there.scored) refl, refl)

  module _ {I : Session} {E : Enrolled} (kept : m.kept ≡ Some (I, E)) where
    pub in_memory_judged : {found : List Breach} → found ≡ breaches_of I E draft.timetable
        → (o : OfficeState) → IsMemoryOf o m
        → CommandOutcome (draft_judged d o) o (λ new. new ≡ o) (Ok found)
    in_memory_judged same None is = absurd (let none = sym (is.drafts d) ∙ at in cc)
    in_memory_judged same (Some r) is =
        let there = there_of d r draft (sym (is.drafts d) ∙ at) in
        let own = ap (λ (s : Session × Enrolled). breaches_of s.0 s.1 draft.timetable)
        (both r I E (is.session ∙ kept)) in
        (Some r, rw (there.timetable, own, same) refl, refl)

    -- the draft in memory has its penalty
    pub scored_in_memory : (o : OfficeState) → IsMemoryOf o m → draft.parts ≡ track I E draft.timetable
    scored_in_memory None is = absurd (let none = sym (is.drafts d) ∙ at in cc)
    scored_in_memory (Some r) is =
        (there_of d r draft (sym (is.drafts d) ∙ at)).scored
        ∙ ap (λ (s : Session × Enrolled). track s.0 s.1 draft.timetable) (both r I E (is.session ∙ kept))

    module _ (e : ℕ) where
      pub in_memory_listed : {found : List PlaceRow} → exam_exists I e ≡ true
          → found ≡ places_of I E draft.timetable e → (o : OfficeState) → IsMemoryOf o m
          → CommandOutcome (draft_places_shown d e o) o (λ new. new ≡ o) (Ok found)
      in_memory_listed exists same None is = absurd (let none = sym (is.drafts d) ∙ at in cc)
      in_memory_listed exists same (Some r) is =
          let there = there_of d r draft (sym (is.drafts d) ∙ at) in
          let kept = both r I E (is.session ∙ kept) in
          let own = ap (λ (s : Session × Enrolled). exam_exists s.0 e) kept ∙ exists in
          let rows = ap (λ (s : Session × Enrolled). places_of s.0 s.1 draft.timetable e) kept in
          (Some r, rw (there.timetable, own, rows, same) refl, refl)

      pub missing_listed : {a : Database} → exam_exists I e ≡ false
          → Denies (draft_places_shown d e) (Refused (refusal.Edit NoSuch)) a m
      missing_listed missing None stands is = absurd (let none = sym (is.drafts d) ∙ at in cc)
      missing_listed missing (Some r) stands is =
          let there = there_of d r draft (sym (is.drafts d) ∙ at) in
          let own = ap (λ (s : Session × Enrolled). exam_exists s.0 e) (both r I E (is.session ∙ kept))
          ∙ missing in
          rw (there.timetable, own) refl
