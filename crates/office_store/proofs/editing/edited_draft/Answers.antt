use Rattle.std.proofs.Common.{rules, ◌≡◌, ◌∙◌, Err, Ok, Some, ap, refl, subst, sym}
use Rattle.exam_model.specs.Enrolments.{Enrolled}
use Rattle.exam_model.specs.Instance.{Session}
use Rattle.office_model.specs.declared.fault.StoreFault.TheVariants.{NoDraft}
use Rattle.office_records.specs.Representation.{RepresentsOffice}
use Rattle.office_store.specs.Editing.{Edits}
use Rattle.office_store.specs.Running.{IsFault}
use Rattle.office_model.specs.DraftCommands.{draft_edited}
use Rattle.office_store.proofs.CommandLemmas.{unloaded}
use Rattle.office_store.proofs.EditCallLemmas.{both, edit_at_hand, edit_comes, edits_in_memory, no_draft}
use Rattle.office_store.proofs.TogetherLemmas.{fits_in, suits_of}
use Rattle.office_store.proofs.editing.edited_draft.Goals as goal

pub returns-in_default-clause-edits : goal.returns-in_default-clause-edits
returns-in_default-clause-edits g c clean all_committed o kept is =
    unloaded (draft_edited c.args.number c.args.edit) o c.in_default.is is refl

pub returns-in_default-draft-clause-edits : goal.returns-in_default-draft-clause-edits
returns-in_default-draft-clause-edits g c clean all_committed o kept is =
    edits_in_memory c.in-Some.is c.args.number c.args.edit (Err NoDraft) o is
    (λ r same here memory. rw (no_draft c.args.number r
    (sym (memory.drafts c.args.number) ∙ c.in_default-draft.ensures.none)) refl)

pub timetable_after_edit-requires : goal.timetable_after_edit-requires
timetable_after_edit-requires g c = record {
  fits = fits_in c.requires.together c.in-Some.is c.args.number c.in-Some-draft.ensures.some;
}

pub returns-in_err-judged-clause-edits : goal.returns-in_err-judged-clause-edits
returns-in_err-judged-clause-edits g c clean all_committed o kept is =
    let d = c.args.number in
    let fault = c.in_err-judged.field-0.0 in
    let same_as : c.from_residual.result ≡ Err fault = search rules in
    subst (Edits d c.args.edit o) (sym same_as)
    (edits_in_memory c.in-Some.is d c.args.edit (Err fault) o is
    (λ r same here memory. c.in_err-judged.ensures.meaning d r here
    (sym (memory.drafts d) ∙ c.in-Some-draft.ensures.some)))

pub returns-in_err-parts-clause-edits : goal.returns-in_err-parts-clause-edits
returns-in_err-parts-clause-edits g c clean all_committed o kept is =
    let d = c.args.number in
    let I = c.in-Some.instance in
    let E = c.in-Some.enrolments in
    let fault = c.in_err-parts.field-0.0 in
    let same_as : c.from_residual-in_err-parts.result ≡ Err fault = search rules in
    subst (Edits d c.args.edit o) (sym same_as)
    (edits_in_memory c.in-Some.is d c.args.edit (Err fault) o is
    (λ r same here memory.
    let judged = c.in_ok-judged.ensures.meaning d r here
    (sym (memory.drafts d) ∙ c.in-Some-draft.ensures.some) in
    subst (IsFault (draft_edited d c.args.edit (Some r)))
    (sym (c.in_err-parts.ensures.meaning
    (record {
      clean = clean;
      opened = all_committed.0;
      records = r;
      kept = subst (RepresentsOffice _) same kept;
      enrolments = ap (λ (p : Session × Enrolled). p.1) (both r I E here);
    })
    (edit_at_hand r I E here d c.args.edit c.in_ok-judged.judged judged
    c.in_ok-judged.ensures.of c.in_ok-judged.ensures.kept))) tt))

pub returns-clause-edits : goal.returns-clause-edits
returns-clause-edits g c clean all_committed o kept is =
    let d = c.args.number in
    let I = c.in-Some.instance in
    let E = c.in-Some.enrolments in
    edits_in_memory c.in-Some.is d c.args.edit
    (Ok (record {
      draft = record { timetable = c.in_ok-judged.judged.new; parts = c.in_ok-parts.parts };
      places = c.in_ok-places.places;
    })) o is
    (λ r same here memory.
    let judged = c.in_ok-judged.ensures.meaning d r here
    (sym (memory.drafts d) ∙ c.in-Some-draft.ensures.some) in
    edit_comes r I E here d c.args.edit c.in_ok-judged.judged c.in_ok-parts.parts judged
    c.in_ok-judged.ensures.kept
    (c.in_ok-parts.ensures.meaning
    (record {
      clean = clean;
      opened = all_committed.0;
      records = r;
      kept = subst (RepresentsOffice _) same kept;
      enrolments = ap (λ (p : Session × Enrolled). p.1) (both r I E here);
    })
    (edit_at_hand r I E here d c.args.edit c.in_ok-judged.judged judged
    c.in_ok-judged.ensures.of c.in_ok-judged.ensures.kept)))

pub returns-clause-suits : goal.returns-clause-suits
returns-clause-suits g c = suits_of c.in-Some.is c.in_ok-judged.ensures.kept.fits
