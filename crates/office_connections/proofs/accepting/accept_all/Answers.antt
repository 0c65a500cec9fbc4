use Rattle.std.proofs.Common.{◌++◌, ◌∷◌, [], arith, false, length-append, refl, rules, subst, sym}
use Rattle.office_messages.specs.Visits.{with_fault}
use Rattle.office_connections.specs.Clients.{AreOfClients, ServesPlanned, ServesWhileOpen}
use Rattle.office_connections.specs.Lines.{PrintsLines}
use Rattle.office_connections.proofs.ClientLemmas.{all_accepted, came_more, last_failed, open_more, printed_more}
use Rattle.office_connections.proofs.LineLemmas.{counted}
use Rattle.office_connections.proofs.accepting.accept_all.Goals as goal

pub loop-service-init : goal.loop-service-init
loop-service-init g c = record {
  most = omega arith;
  unwritten = omega arith;
  served = record {
    visits = [];
    has_failed = false;
    theirs = refl;
    count = refl;
    served = refl;
    printed = (refl, refl);
  };
}

-- one more client
pub loop-service-preserved : goal.loop-service-preserved
loop-service-preserved g c =
    let invariant = c.loop-service.invariant in
    let so_far = invariant.served in
    let next = c.in-Some.ensures.some in
    record {
      most = omega arith;
      unwritten = omega (arith, counted _ _ c.from.ensures);
      served = record {
        visits = so_far.visits ++ next.0 ∷ [];
        has_failed = false;
        theirs = came_more _ _ _ _ _ _ _ so_far.visits next.0 so_far.theirs next.1;
        count = omega (arith, length-append so_far.visits (next.0 ∷ []), so_far.count);
        served = open_more g.M.Machine.Answers g.M.MayShut.is_shut so_far.visits next.0 _ _ _
            so_far.served (search rules) next.2;
        printed = printed_more so_far.visits next.0 _ _ _ _ _ so_far.printed
            (subst (λ n. PrintsLines (with_fault next.0.ended []) n
            (g.E.Write.contents c.loop-service.err) (g.E.Write.contents c.accept_next.new.err))
            (sym c.from.ensures) next.3);
      };
    }

-- all clients of the plan were served
pub returns-after-loop-service : goal.returns-after-loop-service
returns-after-loop-service g c = record {
  served = all_accepted _ _ _ _ _ _ _ _ _ _ _ _ c.loop-service.invariant.served
      c.loop-service.invariant.most (λ fewer. absurd (omega (arith, c.loop-service-test.false)));
}

-- the machine is shut
pub returns-else-not-is_shut : goal.returns-else-not-is_shut
returns-else-not-is_shut g c = record {
  served = all_accepted _ _ _ _ _ _ _ _ _ _ _ _ c.loop-service.invariant.served
      c.loop-service.invariant.most (λ fewer. search rules);
}

-- an accept failed
pub returns-in_default : goal.returns-in_default
returns-in_default g c =
    let none = c.in_default.ensures.none in
    record {
      served = subst (λ m. ServesPlanned
          (AreOfClients g.I.Clients.accepts g.I.Clients.takes_back g.R.Read.remaining
          g.W.Write.contents c.args.clients.now c.accept_next.new.clients)
          (ServesWhileOpen g.M.Machine.Answers g.M.MayShut.is_shut c.args.machine.now m)
          (g.M.MayShut.is_shut m) c.args.plan.connections c.loop-service.service
          (g.E.Write.contents c.args.err.now) (g.E.Write.contents c.accept_next.new.err))
          (sym none.1)
          (subst (λ e. ServesPlanned
          (AreOfClients g.I.Clients.accepts g.I.Clients.takes_back g.R.Read.remaining
          g.W.Write.contents c.args.clients.now c.accept_next.new.clients)
          (ServesWhileOpen g.M.Machine.Answers g.M.MayShut.is_shut c.args.machine.now
          c.loop-service.machine)
          (g.M.MayShut.is_shut c.loop-service.machine) c.args.plan.connections
          c.loop-service.service (g.E.Write.contents c.args.err.now) (g.E.Write.contents e))
          (sym none.2)
          (last_failed _ _ _ _ _ _ _ _ _ _ _ _ _ c.loop-service.invariant.served none.0
          c.loop-service-test.true (search rules)));
    }
