use Rattle.std.proofs.Common.{subst, sym}
use Rattle.sqlite.specs.Held.{state}
use Rattle.office_store.specs.Leaving.{LeavesAsItWas}
use Rattle.office_store.specs.Running.{IsAtRest}
use Rattle.office_store.proofs.RunLemmas.{clean_before, rest_still}
use Rattle.office_store.proofs.ShutLemmas.{still_asked, returned_shut}
use Rattle.office_store.proofs.office.Office.is_shut.Goals as goal

pub invariant_of-self : goal.invariant_of-self
invariant_of-self g c = (
  c.prepare.ensures.mode c.self.invariant.0,
  rest_still (state g.S.Store c.self.inside.conn) (state g.S.Store c.prepare.new.self)
      c.self.inside.memory (clean_before c.prepare.ensures.survives)
      (still_asked (state g.S.Store c.self.inside.conn) (state g.S.Store c.prepare.new.self)
      (subst (λ h. IsAtRest (state g.S.Store h)) (sym c.self.view_is) c.lemma_at_rest.ensures)
      _ c.prepare.result c.prepare.ensures.ok c.prepare.ensures.err)
      c.self.invariant.1,
  c.self.invariant.2,
)

pub returns-clause-shut : goal.returns-clause-shut
returns-clause-shut g c =
    returned_shut (state g.S.Store c.self.inside.conn) (state g.S.Store c.prepare.new.self)
    (subst (λ h. IsAtRest (state g.S.Store h)) (sym c.self.view_is) c.lemma_at_rest.ensures)
    _ c.prepare.result c.prepare.ensures.ok c.prepare.ensures.err
    c.err.result c.err.ensures.value c.is_shut_by.result c.is_shut_by.ensures.shut

pub returns-clause-leaves : goal.returns-clause-leaves
returns-clause-leaves g c =
    subst (λ h. LeavesAsItWas g.S.Store h c.prepare.new.self) c.self.view_is
    (record {
      unchanged = record {
        clean = clean_before c.prepare.ensures.survives;
        unchanged = still_asked (state g.S.Store c.self.inside.conn)
            (state g.S.Store c.prepare.new.self)
            (subst (λ h. IsAtRest (state g.S.Store h)) (sym c.self.view_is)
            c.lemma_at_rest.ensures)
            _ c.prepare.result c.prepare.ensures.ok c.prepare.ensures.err;
      };
      survives = c.prepare.ensures.survives;
    })
