use Rattle.std.proofs.Common.{inl, inr, None, refl, sym, subst, rules}
use Rattle.exam_lists.proofs.Results.{IfErr_both, IfOk_both}
use Rattle.exam_lists.proofs.Booleans.{not_when_false}
use Rattle.sqlite.specs.Held.{state}
use Rattle.sqlite.proofs.StateLemmas.{survives_weaker}
use Rattle.office_records.specs.Representation.{RepresentsOffice}
use Rattle.office_store.specs.Leaving.{connection_of}
use Rattle.office_store.proofs.OpenLemmas.{before_load, holds, or_none}
use Rattle.office_store.proofs.office.Office.open.Goals as goal

-- a new office has no session
pub returns-then-is_bare-clause-found : goal.returns-then-is_bare-clause-found
returns-then-is_bare-clause-found g c = IfOk_both c.create.result _ _ _
    (λ office made bare clean there is stays.
    subst (RepresentsOffice _) (sym (before_load _ there bare is)) (made clean))
    c.create.ensures.made c.create.ensures.bare

-- the office from before is still there
pub returns-else-is_bare-clause-found : goal.returns-else-is_bare-clause-found
returns-else-is_bare-clause-found g c = IfOk_both c.adopt.result _ _ _
    (λ office adopted _ clean there is stays. (adopted clean).represents there
    (holds _ there (not_when_false _ _ c.is_bare.ensures.1 c.if-is_bare.false) is))
    c.adopt.ensures.adopted c.adopt.ensures.adopted

-- the database had no table
pub returns-then-is_bare-clause-stood : goal.returns-then-is_bare-clause-stood
returns-then-is_bare-clause-stood g c = IfOk_both c.create.result _ _ _
    (λ office made bare clean. (None, inl (bare, refl)))
    c.create.ensures.made c.create.ensures.bare

-- the database had tables of an office
pub returns-else-is_bare-clause-stood : goal.returns-else-is_bare-clause-stood
returns-else-is_bare-clause-stood g c = IfOk_both c.adopt.result _ _ _
    (λ office adopted _ clean. ((adopted clean).office, inr (adopted clean).stood))
    c.adopt.ensures.adopted c.adopt.ensures.adopted

-- the database is not that of an office
pub returns-else-is_bare-clause-refused : goal.returns-else-is_bare-clause-refused
returns-else-is_bare-clause-refused g c = IfErr_both c.adopt.result _ _ _
    (λ e fault no_office clean. or_none fault (λ wrong there is. no_office wrong clean there
    (holds _ there (not_when_false _ _ c.is_bare.ensures.1 c.if-is_bare.false) is)))
    c.adopt.ensures.fault c.adopt.ensures.no_office

pub returns-then-is_bare-clause-leaves : goal.returns-then-is_bare-clause-leaves
returns-then-is_bare-clause-leaves g c = record {
  all_committed = search rules;
  undone = c.create.ensures.leaves.undone;
  survives = survives_weaker (state g.S.Store c.args.conn)
      (state g.S.Store (connection_of c.create.result)) _ _ (λ _ found made. inl made)
      c.create.ensures.leaves.survives;
}

pub returns-else-is_bare-clause-leaves : goal.returns-else-is_bare-clause-leaves
returns-else-is_bare-clause-leaves g c = record {
  all_committed = search rules;
  undone = c.adopt.ensures.leaves.undone;
  survives = survives_weaker (state g.S.Store c.args.conn)
      (state g.S.Store (connection_of c.adopt.result)) _ _ (λ _ found made. inr made)
      c.adopt.ensures.leaves.survives;
}
