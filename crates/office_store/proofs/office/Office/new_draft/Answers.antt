use Rattle.std.proofs.Common.{◌∙◌, Err, ap, refl, subst, sym}
use Rattle.std.proofs.lemmas.Result.{err_from_is_err_and}
use Rattle.office_model.specs.DraftCommands.{draft_made}
use Rattle.office_model.specs.declared.fault.StoreFault.TheVariants.{DraftTaken, NoDraft}
use Rattle.office_store.specs.Running.{CommandRan}
use Rattle.office_store.proofs.CallLemmas.{made_moves, made_remembers, number_denied, taken_denied, text_denied}
use Rattle.office_store.proofs.CommandLemmas.{refuses, refuses_unloaded, rests}
use Rattle.office_store.proofs.LeavingLemmas.{done_next, undone_next}
use Rattle.office_store.proofs.TogetherLemmas.{put_together, suits_of}
use Rattle.office_store.proofs.office.Office.new_draft.Goals as goal

pub returns-in_default-clause-runs : goal.returns-in_default-clause-runs
returns-in_default-clause-runs g c =
    refuses_unloaded c.self.view_is c.self.invariant.1 c.in_ok-check_open.ensures.leaves
    (draft_made c.args.number c.args.text.now) c.in_default.is refl

pub returns-then-not-is_draft_number-clause-runs : goal.returns-then-not-is_draft_number-clause-runs
returns-then-not-is_draft_number-clause-runs g c =
    refuses c.self.view_is c.self.invariant.1 c.in_ok-check_open.ensures.leaves
    (draft_made c.args.number c.args.text.now) NoDraft
    (λ _. number_denied c.args.number c.args.text.now c.in-Some.is c.if-not-is_draft_number.ensures)

pub returns-then-has_draft-clause-runs : goal.returns-then-has_draft-clause-runs
returns-then-has_draft-clause-runs g c =
    refuses c.self.view_is c.self.invariant.1 c.in_ok-check_open.ensures.leaves
    (draft_made c.args.number c.args.text.now) DraftTaken
    (λ _. taken_denied c.args.number c.args.text.now c.in-Some.is c.if-not-is_draft_number.ensures
    c.if-has_draft.ensures)

pub returns-in_err-begun-clause-runs : goal.returns-in_err-begun-clause-runs
returns-in_err-begun-clause-runs g c =
    let given = err_from_is_err_and c.from_residual-in_err-begun.result
    c.from_residual-in_err-begun.ensures.1 in
    subst (CommandRan g.S.Store (draft_made c.args.number c.args.text.now) c.args.self.now
    c.check_open.new.self) (sym (given.1 ∙ ap Err given.2))
    (refuses c.self.view_is c.self.invariant.1 c.in_ok-check_open.ensures.leaves
    (draft_made c.args.number c.args.text.now) c.in_err-begun.field-0.0
    (λ _. text_denied c.args.number c.args.text.now c.in-Some.is c.if-not-is_draft_number.ensures
    c.if-has_draft.ensures c.in_err-begun.field-0.0 c.in_err-begun.ensures.err))

pub invariant_of-self-2 : goal.invariant_of-self-2
invariant_of-self-2 g c = (
  c.in_ok-put.ensures.rests,
  rests c.self.invariant.1 c.put.ensures
      (λ _. made_moves c.args.number c.args.text.now c.in-Some.is c.if-not-is_draft_number.ensures
      c.if-has_draft.ensures c.deref.ensures.value c.in_ok-begun.ensures.ok c.total.ensures.total
      c.draft_row.result c.draft_row.ensures.number c.draft_row.ensures.parts)
      c.in_ok-put.ensures.done
      (λ _. made_remembers c.args.number c.args.text.now c.in-Some.is c.if-not-is_draft_number.ensures
      c.if-has_draft.ensures c.deref.ensures.value c.in_ok-begun.ensures.ok c.total.ensures.total
      c.put-2.ensures.put),
  put_together c.self.invariant.2 (suits_of c.in-Some.is c.in_ok-begun.ensures.ok.fits)
      c.put-2.ensures.put c.put-2.ensures.beyond,
)

pub returns : goal.returns
returns g c =
    done_next c.self.view_is c.self.invariant.1 c.in_ok-check_open.ensures.leaves c.put.ensures
    (λ _. made_moves c.args.number c.args.text.now c.in-Some.is c.if-not-is_draft_number.ensures
    c.if-has_draft.ensures c.deref.ensures.value c.in_ok-begun.ensures.ok c.total.ensures.total
    c.draft_row.result c.draft_row.ensures.number c.draft_row.ensures.parts)
    c.in_ok-put.ensures.done

pub returns-in_err-put : goal.returns-in_err-put
returns-in_err-put g c =
    undone_next c.self.view_is c.self.invariant.1 c.in_ok-check_open.ensures.leaves c.put.ensures
    (λ _. made_moves c.args.number c.args.text.now c.in-Some.is c.if-not-is_draft_number.ensures
    c.if-has_draft.ensures c.deref.ensures.value c.in_ok-begun.ensures.ok refl
    c.draft_row.result c.draft_row.ensures.number c.draft_row.ensures.parts)
    c.in_err-put.ensures.undone c.from_residual-in_err-put.ensures.1
