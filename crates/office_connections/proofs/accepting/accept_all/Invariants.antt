use Rattle.std.specs.Prelude.{◌-◌, ◌≤◌}
use Rattle.office_connections.specs.Clients.{CameBetween, ServesClients, ServesWhileOpen}
use Rattle.office_connections.proofs.accepting.accept_all.Given as goal

-- each client so far was served
abbrev pub invariant-loop-service : goal.invariant-loop-service
invariant-loop-service g l = record {
  most : l.service.accepted ≤ l.plan.connections;
  unwritten : l.service.unwritten ≤ l.service.accepted;
  served : ServesClients (λ has_failed visits. CameBetween g.I.Clients.accepts
      g.I.Clients.takes_back g.R.Read.remaining g.W.Write.contents l.fn.clients visits l.clients)
      (ServesWhileOpen g.M.Machine.Answers g.M.MayShut.is_shut l.fn.machine l.machine)
      l.service (g.E.Write.contents l.fn.err) (g.E.Write.contents l.err);
}

abbrev pub decreases-loop-service : goal.decreases-loop-service
decreases-loop-service g l = l.plan.connections - l.service.accepted
