use Rattle.std.proofs.Common.{inl, refl}
use Rattle.office_program.proofs.ServeFacts.{came_to, desk_serves_nobody, leaves_port}
use Rattle.office_program.proofs.ServeFacts.{nobody_comes}
use Rattle.office_program.proofs.ServeFacts.{prints_served, terms_follow}
use Rattle.office_program.proofs.serving.listen_and_serve.Goals as goal

-- listening failed
pub returns-in_default-clause-reached : goal.returns-in_default-clause-reached
returns-in_default-clause-reached g c = nobody_comes _ _ _ _ _ (inl (c.in_default.ensures.failed, refl))
    (desk_serves_nobody g.S.Store _)

pub returns-clause-reached : goal.returns-clause-reached
returns-clause-reached g c =
    terms_follow _ _ _ _ _ _
    (came_to (λ old. g.N.Ports.opens old c.args.terms.port) g.N.Ports.closes g.I.Clients.accepts
    g.I.Clients.takes_back g.R.Read.remaining g.W.Write.contents _ _ _ _ _
    c.in-Ok.ensures.opened c.close.ensures)
    (λ vs served. served) (λ closed. closed) _ _ _ _ c.serve_clients-done.ensures.served

pub returns-clause-served : goal.returns-clause-served
returns-clause-served g c =
    prints_served _ _ _ _ _ c.in-Ok.ensures.port _ _ _ _ _ c.serve_clients-done.ensures.served
    c.serve_clients-done.ensures.status c.serve_clients-done.ensures.port

pub returns-clause-port : goal.returns-clause-port
returns-clause-port g c =
    leaves_port c.args.terms _ c.in-Ok.ensures.port _ _ _ c.serve_clients-done.ensures.unprinted
    c.serve_clients-done.ensures.front
