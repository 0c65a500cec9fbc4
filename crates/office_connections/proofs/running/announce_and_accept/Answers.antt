use Rattle.std.proofs.Common.{[], arith, false, inl, refl, rules}
use Rattle.office_connections.proofs.ClientLemmas.{ran, ran_shut}
use Rattle.office_connections.proofs.running.announce_and_accept.Goals as goal

-- no client was served
pub returns-then-is_err-clause-served : goal.returns-then-is_err-clause-served
returns-then-is_err-clause-served g c = record {
  service = record { accepted = 0; unwritten = 0 };
  most = omega arith;
  serves = record {
    visits = [];
    has_failed = false;
    theirs = refl;
    count = refl;
    served = refl;
    printed = (refl, refl);
  };
  all = tt;
  fewer = inl (refl, refl, refl);
}

-- the machine is shut
pub returns-then-is_shut-clause-served : goal.returns-then-is_shut-clause-served
returns-then-is_shut-clause-served g c =
    ran_shut _ _ _ _ _ _ _ c.accept_all-service.ensures.served (search rules)

-- the machine is open
pub returns-clause-served : goal.returns-clause-served
returns-clause-served g c = ran _ _ _ _ _ _ _ c.accept_all-service.ensures.served (search rules)
    _ c.run_result.ensures.all c.run_result.ensures.fewer
