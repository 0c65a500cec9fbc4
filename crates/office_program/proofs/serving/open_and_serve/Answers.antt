use Rattle.std.proofs.Common.{◌≡◌, inl, refl}
use Rattle.office_program.specs.Serve.{AreOfPorts}
use Rattle.office_program.proofs.DatabaseFacts.{others_kept, served_err, served_ok}
use Rattle.office_program.proofs.serving.open_and_serve.Goals as goal

-- no database was opened
pub returns-in-Err-clause-fault : goal.returns-in-Err-clause-fault
returns-in-Err-clause-fault g c = inl (c.in-Err.ensures.failed.of, c.in-Err.ensures.failed.line)

pub returns-in-Err-clause-unserved : goal.returns-in-Err-clause-unserved
returns-in-Err-clause-unserved g c = inl (c.in-Err.ensures.failed, refl, refl)

-- the database that was opened is given back after the last client
pub returns-clause-serves : goal.returns-clause-serves
returns-clause-serves g c = served_ok g.S.Store (g.D.Databases.known c.args.databases.now)
    (g.D.Databases.known c.take_back.new.self) (c.serve_office-conn.new.net ≡ c.args.net.now)
    (AreOfPorts g.N.Ports.opens g.N.Ports.closes g.I.Clients.accepts
    g.I.Clients.takes_back g.R.Read.remaining g.W.Write.contents c.args.net.now
    c.serve_office-conn.new.net)
    _ _ _ c.args.database.now c.args.terms c.in-Ok.conn c.serve_office-conn.result.0
    c.in-Ok.ensures.opened c.take_back.ensures.back
    (others_kept _ _ _ _ c.in-Ok.ensures.others c.take_back.ensures.others) c.serve_office-conn.ensures.reached

pub returns-clause-unserved : goal.returns-clause-unserved
returns-clause-unserved g c = served_err g.S.Store (g.D.Databases.known c.args.databases.now)
    (g.D.Databases.known c.take_back.new.self) (c.serve_office-conn.new.net ≡ c.args.net.now)
    (AreOfPorts g.N.Ports.opens g.N.Ports.closes g.I.Clients.accepts
    g.I.Clients.takes_back g.R.Read.remaining g.W.Write.contents c.args.net.now
    c.serve_office-conn.new.net)
    _ _ _ c.args.database.now c.args.terms c.in-Ok.conn c.serve_office-conn.result.0
    c.in-Ok.ensures.opened c.take_back.ensures.back
    (others_kept _ _ _ _ c.in-Ok.ensures.others c.take_back.ensures.others) c.serve_office-conn.ensures.reached
