use Rattle.std.proofs.Common.{rules, ◌≡◌, Err, subst, sym}
use Rattle.office_model.specs.Publishing.{draft_published}
use Rattle.office_store.specs.Running.{CommandRan}
use Rattle.office_store.proofs.CommandLemmas.{refuses, rests}
use Rattle.office_store.proofs.LeavingLemmas.{done_next, undone_next}
use Rattle.office_store.proofs.PublishLemmas.{publication_moves, publication_remembers}
use Rattle.office_store.proofs.TogetherLemmas.{published_together}
use Rattle.office_store.proofs.office.Office.publish.Goals as goal

pub new_publication-requires : goal.new_publication-requires
new_publication-requires g c = record { together = c.self.invariant.2 }

pub returns-in_err-writes-clause-runs : goal.returns-in_err-writes-clause-runs
returns-in_err-writes-clause-runs g c =
    let fault = c.in_err-writes.field-0.0 in
    let is : c.from_residual-in_err-writes.result ≡ Err fault = search rules in
    subst (CommandRan g.S.Store (draft_published c.args.number) c.args.self.now c.check_open.new.self)
    (sym is)
    (refuses c.self.view_is c.self.invariant.1 c.in_ok-check_open.ensures.leaves
    (draft_published c.args.number) fault (λ k o kept is. c.in_err-writes.ensures.publishes o is))

pub invariant_of-self-2 : goal.invariant_of-self-2
invariant_of-self-2 g c = (
  c.in_ok-put.ensures.rests,
  rests c.self.invariant.1 c.put.ensures (λ _. publication_moves c.in_ok-writes.ensures.publishes)
      c.in_ok-put.ensures.done
      (λ _. publication_remembers c.in_ok-writes.ensures.publishes c.publish.ensures),
  published_together c.self.invariant.2 c.publish.ensures c.in_ok-writes.ensures.found,
)

pub returns : goal.returns
returns g c =
    done_next c.self.view_is c.self.invariant.1 c.in_ok-check_open.ensures.leaves c.put.ensures
    (λ _. publication_moves c.in_ok-writes.ensures.publishes) c.in_ok-put.ensures.done

pub returns-in_err-put : goal.returns-in_err-put
returns-in_err-put g c =
    undone_next c.self.view_is c.self.invariant.1 c.in_ok-check_open.ensures.leaves c.put.ensures
    (λ _. publication_moves c.in_ok-writes.ensures.publishes) c.in_err-put.ensures.undone
    c.from_residual-in_err-put.ensures.1
