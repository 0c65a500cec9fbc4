-- What an edit of a draft returns, and what is stored of it.
use Rattle.std.proofs.Common.{◌≡◌, ◌≤◌, ℕ, List, Option, Some, None, option_map, Result, Ok, Err, refl, sym, ◌∙◌, ap, subst, ◌⊎◌, map}
use Rattle.std.specs.Prelude.{IsSome}
use Rattle.std.proofs.lemmas.Option.{same_Some}
use Rattle.sqlite.specs.Effect.{Database}
use Rattle.exam_model.specs.Enrolments.{Enrolled}
use Rattle.exam_model.specs.Fits.{Fits}
use Rattle.exam_model.specs.Instance.{Session}
use Rattle.exam_model.specs.Timetable.{Placing}
use Rattle.exam_score.specs.Changes.{DiffersAtMost}
use Rattle.exam_score.specs.Penalty.{Penalty, total_of}
use Rattle.exam_score.specs.Track.{track}
use Rattle.exam_draft.specs.Edits.{Edited, edit_result}
use Rattle.exam_draft.specs.Judged.{IsEditedAt, edited_exams}
use Rattle.exam_draft.specs.declared.edit.Edit.{Edit}
use Rattle.office_tables.specs.Alterations.{after_all}
use Rattle.office_tables.specs.Tables.{with_draft, without_draft}
use Rattle.office_tables.specs.TablesHeld.{HoldsTables}
use Rattle.office_tables.specs.declared.altering.Both.{Both}
use Rattle.office_tables.specs.declared.tables.draft.DraftRow.{DraftRow}
use Rattle.office_tables.specs.declared.tables.slot.DeleteSlot.{DeleteSlot}
use Rattle.office_tables.specs.Tables.Slot.{InsertSlot}
use Rattle.office_model.specs.Commands.{renamed_fault}
use Rattle.office_model.specs.DraftCommands.{draft_edited, live_penalty}
use Rattle.office_model.specs.Office.{OfficeState, Records, set_at}
use Rattle.office_model.specs.declared.fault.Refusal.TheVariants as refusal
use Rattle.office_model.specs.declared.fault.StoreFault.{StoreFault}
use Rattle.office_model.specs.declared.fault.StoreFault.TheVariants.{Refused, Store}
use Rattle.office_records.specs.Memory.{memory_of, with_penalty, scored_draft}
use Rattle.office_records.specs.Representation.{RepresentsOffice, parts_of}
use Rattle.office_records.specs.declared.drafts.Draft.{Draft}
use Rattle.office_store.specs.Changes.{edit_put, new_place, slots_put}
use Rattle.office_store.specs.Editing.{Edits, IsEdited, IsJudged}
use Rattle.office_store.specs.Folding.{IsEditOf}
use Rattle.office_store.specs.Memory.{HasPut, IsMemoryOf}
use Rattle.office_store.specs.Running.{IsFault}
use Rattle.office_store.specs.declared.editing.EditedDraft.{EditedDraft}
use Rattle.office_store.specs.declared.editing.EditedTimetable.{EditedTimetable}
use Rattle.office_store.specs.declared.memory.OfficeMemory.{OfficeMemory}
use Rattle.office_store.proofs.CommandLemmas.{fault_of, MovesBy, Remembers, RowsChanged}
use Rattle.office_store.proofs.EditLemmas.{edit_kept, all_moved, move_made}
use Rattle.office_store.proofs.RememberingLemmas.{next_is, one_changed}

-- ---- a draft that exists

-- a draft in memory of these records
pub record IsThere (r : Records) (d : ℕ) (draft : Draft) : Type 0 where
  pub timetable : r.draft d ≡ Some draft.timetable
  pub scored : draft.parts ≡ track r.session r.enrolments draft.timetable

pub there_of : (d : ℕ) (r : Records) (draft : Draft) → scored_draft d (Some r) ≡ Some draft
    → IsThere r d draft
there_of d r draft h = go (r.draft d) refl
  where
    go : (o : Option Placing) → r.draft d ≡ o → IsThere r d draft
    go None is = absurd (let none = rw is at h in cc)
    go (Some T) is =
        let same = same_Some (with_penalty r.session r.enrolments T) draft (rw is at h) in
        record {
          timetable = is ∙ ap (λ (x : Draft). Some x.timetable) same;
          scored = sym (ap (λ (x : Draft). x.parts) same)
              ∙ ap (λ (x : Draft). track r.session r.enrolments x.timetable) same;
        }

-- there is no draft
pub no_draft : (d : ℕ) (r : Records) → scored_draft d (Some r) ≡ None → r.draft d ≡ None
no_draft d r h = go (r.draft d) h
  where
    go : (o : Option Placing) → option_map (with_penalty r.session r.enrolments) o ≡ None → o ≡ None
    go None h = refl
    go (Some T) h = absurd cc

-- ---- what the command returns

pub edit_gives : (d : ℕ) (change : Edit) (r : Records) (T new : Placing) → r.draft d ≡ Some T
    → edit_result r.session r.enrolments T change ≡ Ok new
    → draft_edited d change (Some r)
    ≡ Ok (live_penalty r new, Some (record r { draft = set_at d (Some new) r.draft }))
edit_gives d change r T new there made = rw (there, made) refl

refused_so : (d : ℕ) (change : Edit) (r : Records) (T : Placing) (e : StoreFault)
    → r.draft d ≡ Some T
    → renamed_fault (λ f. Refused (refusal.Edit f)) (edit_result r.session r.enrolments T change) ≡ Err e
    → draft_edited d change (Some r) ≡ Err e
refused_so d change r T e there is = rw (there, is) refl

-- out of memory, or the edit's own refusal
abbrev IsRefusal : Edited → StoreFault → Type 0
IsRefusal x e = (e ≡ Store) ⊎ (renamed_fault (λ f. Refused (refusal.Edit f)) x ≡ Err e)

edit_refused : (d : ℕ) (change : Edit) (r : Records) (T : Placing) (e : StoreFault)
    → r.draft d ≡ Some T → IsRefusal (edit_result r.session r.enrolments T change) e
    → IsFault (draft_edited d change (Some r)) e
edit_refused d change r T e there refused =
    fault_of refusal.Edit (edit_result r.session r.enrolments T change) _ e refused
    (λ is. refused_so d change r T e there is)

-- ---- an edit that is legal

module _ (r : Records) (I : Session) (E : Enrolled)
    (here : memory_of (Some r) ≡ Some (I, E)) where
  pub both : ◌≡◌ {A = Session × Enrolled} (r.session, r.enrolments) (I, E)
  both = same_Some (r.session, r.enrolments) (I, E) here

  pub is_judged : (d : ℕ) (change : Edit) (judged : EditedTimetable) → IsThere r d judged.draft.now
      → edit_result I E judged.draft.now.timetable change ≡ Ok judged.new → IsJudged d change r judged
  is_judged d change judged there edits = record {
    draft = there.timetable;
    edits = ap (λ (p : Session × Enrolled). edit_result p.0 p.1 judged.draft.now.timetable change) both
        ∙ edits;
    scored = there.scored;
  }

  -- the edit is refused
  pub is_refused : (d : ℕ) (change : Edit) (draft : Draft) (e : StoreFault) → IsThere r d draft
      → (e ≡ Store) ⊎ (renamed_fault (λ f. Refused (refusal.Edit f))
      (edit_result I E draft.timetable change) ≡ Err e)
      → IsFault (draft_edited d change (Some r)) e
  is_refused d change draft e there refused =
      edit_refused d change r draft.timetable e there.timetable
      (subst (λ (p : Session × Enrolled). IsRefusal (edit_result p.0 p.1 draft.timetable change) e)
      (sym both) refused)

  -- an edit of the memory is one of these records
  pub edit_at_hand : (d : ℕ) (change : Edit) (judged : EditedTimetable) → IsJudged d change r judged
      → judged.exams.items ≡ edited_exams change
      → IsEditedAt I E judged.draft.now.timetable (edited_exams change) judged.new → IsEditOf I E judged
  edit_at_hand d change judged is exams kept = record {
    fits = kept.fits;
    others = subst (λ l. DiffersAtMost l judged.draft.now.timetable judged.new) (sym exams) kept.others;
    scored = is.scored ∙ ap (λ (p : Session × Enrolled). track p.0 p.1 judged.draft.now.timetable) both;
  }

  pub edit_comes : (d : ℕ) (change : Edit) (judged : EditedTimetable) (parts : Penalty)
      → IsJudged d change r judged → IsEditedAt I E judged.draft.now.timetable (edited_exams change) judged.new
      → parts ≡ track I E judged.new
      → IsEdited d change (Some r) (record { timetable = judged.new; parts = parts })
  edit_comes d change judged parts is kept scored = record {
    records = r;
    is = refl;
    old = judged.draft.now.timetable;
    draft = is.draft;
    edits = is.edits;
    fits = subst (λ (p : Session × Enrolled). Fits p.0 p.1 judged.new) (sym both) kept.fits;
    scored = scored ∙ sym (ap (λ (p : Session × Enrolled). track p.0 p.1 judged.new) both);
  }

-- what the command makes of an office
edited_gives : (o : OfficeState) (d : ℕ) (change : Edit) (new : Draft) (total : ℕ)
    (of : IsEdited d change o new) → total ≡ total_of new.parts
    → draft_edited d change o
    ≡ Ok (total, Some (record of.records { draft = set_at d (Some new.timetable) of.records.draft }))
edited_gives o d change new total of is_total =
    ap (draft_edited d change) of.is
    ∙ edit_gives d change of.records of.old new.timetable of.draft of.edits
    ∙ ap (λ n. Ok
    (n, Some (record of.records { draft = set_at d (Some new.timetable) of.records.draft })))
    (sym (is_total ∙ ap total_of of.scored))

-- ---- the calls that edit

module _ {a : Database} {m : OfficeMemory} {d : ℕ} {change : Edit} {new : Draft} {total : ℕ}
    (edits : (o : OfficeState) → RepresentsOffice a o → IsMemoryOf o m → IsEdited d change o new)
    (is_total : total ≡ total_of new.parts) where
  -- the transaction changes the office as the command does
  pub edit_moves : {places : List (Both DeleteSlot (Option InsertSlot))} (row : DraftRow) → row.no ≡ d
      → parts_of row ≡ new.parts → places ≡ map (new_place d new.timetable) (edited_exams change)
      → MovesBy (λ t. after_all move_made places (with_draft row (without_draft d t)))
      (draft_edited d change) total a m
  edit_moves row number parts put b comes o kept is =
      let exams = edited_exams change in
      let of = edits o kept is in
      let makes : RowsChanged (edit_put row new.timetable exams) a b
      = λ t h. subst
      (λ n. HoldsTables b (slots_put n new.timetable exams (with_draft row (without_draft n t))))
      (sym number)
      (let u = with_draft row (without_draft d t) in
      subst (HoldsTables b)
      (ap (λ l. after_all move_made l u) put ∙ all_moved d new.timetable exams u) (comes t h)) in (
        _,
        edited_gives o d change new total of is_total,
        subst (λ n. RepresentsOffice b
            (Some (record of.records { draft = set_at n (Some new.timetable) of.records.draft }))) number
            (edit_kept a b of.records of.old new.timetable row change
            (ap of.records.draft number ∙ of.draft) of.edits (parts ∙ of.scored) of.fits
            (subst (RepresentsOffice a) of.is kept) makes),
      )

  pub edit_remembers : {n : OfficeMemory} → (d ≤ 8 → HasPut d (Some new) m n)
      → Remembers (draft_edited d change) total a m n
  edit_remembers {n = n} puts o kept is next gives =
      let of = edits o kept is in
      let r = of.records in
      let here : RepresentsOffice a (Some r) = subst (RepresentsOffice a) of.is kept in
      let within = here.office.numbered d (subst IsSome (sym of.draft) refl) in
      let scored : Some new ≡ Some (with_penalty r.session r.enrolments new.timetable)
      = ap (λ P. Some (record { timetable = new.timetable; parts = P })) of.scored in
      subst (λ o. IsMemoryOf o n)
      (next_is gives (edited_gives o d change new total of is_total))
      (one_changed r m n d (Some new.timetable) (subst (λ o. IsMemoryOf o m) of.is is)
      (subst (λ x. HasPut d x m n) scored (puts within.1)))

-- ---- by what is in memory

-- what is in memory decides for each office that is represented
pub edits_in_memory : {m : OfficeMemory} {I : Session} {E : Enrolled} → m.kept ≡ Some (I, E)
    → (d : ℕ) (change : Edit) (result : Result EditedDraft StoreFault)
    → (o : OfficeState) → IsMemoryOf o m
    → ((r : Records) → o ≡ Some r → memory_of (Some r) ≡ Some (I, E)
    → IsMemoryOf (Some r) m → Edits d change (Some r) result)
    → Edits d change o result
edits_in_memory kept d change result None is edits = absurd (let none = is.session ∙ kept in cc)
edits_in_memory kept d change result (Some r) is edits = edits r refl (is.session ∙ kept) is
