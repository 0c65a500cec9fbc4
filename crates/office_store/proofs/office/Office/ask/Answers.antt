use Rattle.std.proofs.Common.{subst, sym}
use Rattle.sqlite.specs.Held.{state}
use Rattle.office_tables.specs.TablesHeld.{HoldsTables}
use Rattle.office_store.specs.Running.{IsAtRest}
use Rattle.office_store.proofs.RunLemmas.{now_after, rest_after}
use Rattle.office_store.proofs.office.Office.ask.Goals as goal

pub invariant_of-self : goal.invariant_of-self
invariant_of-self g c = (
  c.ask.ensures.leaves.mode c.self.invariant.0,
  rest_after c.self.invariant.1
      (subst (λ h. IsAtRest (state g.S.Store h)) (sym c.self.view_is) c.lemma_at_rest.ensures)
      c.ask.ensures.leaves,
  c.self.invariant.2,
)

pub returns-clause-rows : goal.returns-clause-rows
returns-clause-rows g c clean office kept =
    c.in_ok-rows.ensures.rows clean kept.held
    (subst (λ db. HoldsTables db kept.held)
    (now_after c.self.invariant.1 c.in_ok-rows.ensures.leaves clean) kept.tables)
