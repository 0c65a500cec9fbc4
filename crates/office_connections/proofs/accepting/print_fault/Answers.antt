use Rattle.std.proofs.Common.{◌++◌, ◌∷◌, ◌∙◌, [], subst}
use Rattle.std.specs.Prelude.{OnErr, OnOk, codes, decimal}
use Rattle.std.specs.Io.KnownBytes.{Appends}
use Rattle.office_output.specs.Writing.{WritesFront}
use Rattle.office_connections.proofs.accepting.print_fault.Goals as goal

pub returns-clause-ok : goal.returns-clause-ok
returns-clause-ok g c =
    subst (λ n. OnOk c.write_numbered.result (Appends (g.W.Write.contents c.args.err.now)
    (g.W.Write.contents c.write_numbered.new.writer)
    (codes "examoffice: connection fault " ++ decimal n ++ 10 ∷ [])))
    (c.from.ensures ∙ c.number_of.ensures) c.write_numbered.ensures.ok

pub returns-clause-err : goal.returns-clause-err
returns-clause-err g c =
    subst (λ n. OnErr c.write_numbered.result (WritesFront (g.W.Write.contents c.args.err.now)
    (g.W.Write.contents c.write_numbered.new.writer)
    (codes "examoffice: connection fault " ++ decimal n ++ 10 ∷ [])))
    (c.from.ensures ∙ c.number_of.ensures) c.write_numbered.ensures.err
