use Rattle.std.proofs.Common.{rules, refl}
use Rattle.office_model.specs.DraftCommands.{draft_dropped}
use Rattle.office_model.specs.declared.fault.StoreFault.TheVariants.{NoDraft}
use Rattle.office_store.proofs.CallLemmas.{drop_denied, drop_moves, drop_remembers}
use Rattle.office_store.proofs.CommandLemmas.{refuses, refuses_unloaded, rests}
use Rattle.office_store.proofs.LeavingLemmas.{done_next, undone_next}
use Rattle.office_store.proofs.TogetherLemmas.{put_together}
use Rattle.office_store.proofs.office.Office.drop_draft.Goals as goal

pub returns-then-is_none-clause-runs : goal.returns-then-is_none-clause-runs
returns-then-is_none-clause-runs g c =
    refuses_unloaded c.self.view_is c.self.invariant.1 c.in_ok-check_open.ensures.leaves
    (draft_dropped c.args.number) (search rules) refl

pub returns-then-not-has_draft-clause-runs : goal.returns-then-not-has_draft-clause-runs
returns-then-not-has_draft-clause-runs g c =
    refuses c.self.view_is c.self.invariant.1 c.in_ok-check_open.ensures.leaves
    (draft_dropped c.args.number) NoDraft
    (λ _. drop_denied c.args.number c.if-is_none.ensures c.if-not-has_draft.ensures)

pub invariant_of-self-2 : goal.invariant_of-self-2
invariant_of-self-2 g c = (
  c.in_ok-put.ensures.rests,
  rests c.self.invariant.1 c.put.ensures
      (λ _. drop_moves c.args.number c.if-is_none.ensures c.if-not-has_draft.ensures)
      c.in_ok-put.ensures.done
      (λ _. drop_remembers c.args.number c.if-is_none.ensures c.if-not-has_draft.ensures
      c.put-2.ensures.put),
  put_together c.self.invariant.2 (λ I E kept. tt) c.put-2.ensures.put c.put-2.ensures.beyond,
)

pub returns : goal.returns
returns g c =
    done_next c.self.view_is c.self.invariant.1 c.in_ok-check_open.ensures.leaves c.put.ensures
    (λ _. drop_moves c.args.number c.if-is_none.ensures c.if-not-has_draft.ensures)
    c.in_ok-put.ensures.done

pub returns-in_err-put : goal.returns-in_err-put
returns-in_err-put g c =
    undone_next c.self.view_is c.self.invariant.1 c.in_ok-check_open.ensures.leaves c.put.ensures
    (λ _. drop_moves c.args.number c.if-is_none.ensures c.if-not-has_draft.ensures)
    c.in_err-put.ensures.undone c.from_residual-in_err-put.ensures.1
