use Rattle.std.proofs.Common.{Ok, sym}
use Rattle.office_store.specs.Memory.{priced_in}
use Rattle.office_store.proofs.CommandLemmas.{returns_value}
use Rattle.office_store.proofs.office.Office.publication_penalty.Goals as goal

pub returns-clause-reads : goal.returns-clause-reads
returns-clause-reads g c =
    returns_value c.self.view_is c.self.invariant.1 c.in_ok-check_open.ensures.leaves priced_in
    (Ok c.self.inside.memory.priced) (λ k o kept is. sym is.priced)
