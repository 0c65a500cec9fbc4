use Rattle.std.proofs.Common.{◌∙◌, arith, inl, inr, refl}
use Rattle.std.proofs.lemmas.Bool.{eqb-true}
use Rattle.sqlite.specs.declared.error.Error.TheVariants.{SqliteFailure}
use Rattle.sqlite.specs.declared.error.ErrorCode.TheVariants.{OutOfMemory}
use Rattle.office_program.proofs.ServeFacts.{desk_serves, desk_serves_nobody, desk_shut, serves_nobody}
use Rattle.office_program.proofs.ServeFacts.{terms_follow}
use Rattle.office_program.proofs.serving.serve_clients.Goals as goal

pub returns-in_default-clause-served : goal.returns-in_default-clause-served
returns-in_default-clause-served g c =
    serves_nobody _ _ _ _ _ refl
    (desk_serves_nobody g.S.Store _) _ (inl refl)

-- out of memory for the desk gets the same line as out of memory for a database
pub returns-in_default-clause-fault : goal.returns-in_default-clause-fault
returns-in_default-clause-fault g c = inl (SqliteFailure OutOfMemory, refl)

-- the planned number of clients was served
pub returns-in-Ok-announce_and_accept-clause-served :
    goal.returns-in-Ok-announce_and_accept-clause-served
returns-in-Ok-announce_and_accept-clause-served g c =
    let x = c.in-Ok-announce_and_accept.ensures.served in
    let plan = c.plan_of-plan.ensures.connections in
    terms_follow _ _ _ _ ⊥ _ (λ has_failed vs theirs. theirs)
    (desk_serves g.S.Store (λ m. m.desk.ghost_name) (λ m. m.desk.now) (λ m. m.is_shut)
    _ _ _ c.desk-1.given.1) (λ never. absurd never) _ _ _ _
    (record {
      service = x.service;
      most = omega (arith, x.most, plan);
      serves = x.serves;
      all = (x.all.0 ∙ plan, x.all.2, λ err_line. x.all.1 ∙ eqb-true _ 0 err_line);
      fewer = tt;
    })

-- the store is closed; or fewer clients were served, or none
pub returns-clause-served : goal.returns-clause-served
returns-clause-served g c =
    let x = c.in-Err.ensures.served in
    let plan = c.plan_of-plan.ensures.connections in
    terms_follow _ _ _ _ _ _ (λ has_failed vs theirs. theirs)
    (desk_serves g.S.Store (λ m. m.desk.ghost_name) (λ m. m.desk.now) (λ m. m.is_shut)
    _ _ _ c.desk-1.given.1) (λ closed. closed) _ _ _ _
    (record {
      service = x.service;
      most = omega (arith, x.most, plan);
      serves = x.serves;
      all = tt;
      fewer = elim x.fewer [
        | inl nobody ↦ inl (inr (c.fault_of_run.ensures.write nobody.0), nobody.1, nobody.2)
        | inr (inl some) ↦ inr (inl (
          c.fault_of_run.ensures.listen some.0,
          some.2,
          inr (omega (arith, some.1, plan)),
        ))
        | inr (inr shut) ↦ inr (inr (
          c.fault_of_run.ensures.shut shut.0,
          shut.1,
          desk_shut g.S.Store (λ m. m.desk.ghost_name) (λ m. m.desk.now) (λ m. m.is_shut)
              _ _ _ c.desk-1.given.1 x.serves.visits x.serves.served refl shut.2,
        ))
      ];
    })

-- the port was printed, unless that failed
pub returns-clause-unprinted : goal.returns-clause-unprinted
returns-clause-unprinted g c = λ other.
    inr (c.in-Err.ensures.unaccepted (λ is. other (c.fault_of_run.ensures.write is)))

pub returns-clause-front : goal.returns-clause-front
returns-clause-front g c = λ is. c.in-Err.ensures.front (c.fault_of_run.ensures.only is)
