use Rattle.std.proofs.Common.{◌∙◌, inl, refl, subst, sym}
use Rattle.office_program.specs.Serve.{IsStoreShut, OfficeServes}
use Rattle.office_program.proofs.DatabaseFacts.{serves_in}
use Rattle.office_program.proofs.ServeFacts.{terms_follow}
use Rattle.office_program.proofs.serving.serve_office.Goals as goal

-- the office could not be opened
pub returns-in-Err-clause-reached : goal.returns-in-Err-clause-reached
returns-in-Err-clause-reached g c = inl (
  record {
    of = c.in-Err.fault;
    is = refl;
    fault = c.in-Err.ensures.fault;
    none = c.in-Err.ensures.refused;
    leaves = c.in-Err.ensures.leaves;
  },
  refl,
  refl,
)

-- the office that was opened is served
pub returns-clause-reached : goal.returns-clause-reached
returns-clause-reached g c =
    let same = c.release.ensures ∙ c.into_office.ensures in
    serves_in g.S.Store _ _ _ _ _ _ _ _ (record {
      found = c.in-Ok.office;
      opened = record {
        holds = λ clean.
            let stood = c.in-Ok.ensures.stood clean in
            record { there = stood.0; stood = stood.1; of = c.in-Ok.ensures.found clean };
        leaves = c.in-Ok.ensures.leaves;
      };
      clients = terms_follow _ _ _ _ _ _ (λ has_failed vs theirs. theirs)
          (λ vs served. subst (λ held. OfficeServes g.S.Store held c.release.result vs)
          c.new-desk.ensures
          (subst (λ held. OfficeServes g.S.Store c.new-desk.result held vs) (sym same) served))
          (subst (IsStoreShut g.S.Store) (sym same)) _ _ _ _ c.listen_and_serve-done.ensures.reached;
    })
