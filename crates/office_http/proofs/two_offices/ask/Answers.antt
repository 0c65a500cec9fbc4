use Rattle.std.proofs.Common.{subst, sym}
use Rattle.sqlite.proofs.Callers.{memory_is_clean}
use Rattle.sqlite.specs.Held.{Held, state}
use Rattle.sqlite.specs.Steps.{over_memory}
use Rattle.sqlite.specs.declared.MemStore.{MemStore}
use Rattle.office_store.specs.Running.{Represents}
use Rattle.office_http.proofs.two_offices.ask.Goals as goal

pub returns-clause-text : goal.returns-clause-text
returns-clause-text c = λ o now.
    let read = c.in-Ok.ensures.reads (memory_is_clean c.shares.new.self) o now in
    c.in_ok-reply.ensures o
    (subst (λ (held : Held MemStore). Represents (state over_memory held) o) (sym c.new-desk.ensures) read.1)

pub returns-clause-add_up : goal.returns-clause-add_up
returns-clause-add_up c = λ o now.
    let read = c.in-Ok.ensures.reads (memory_is_clean c.shares.new.self) o now in
    (read.0, c.in-Ok.ensures.add_up (memory_is_clean c.shares.new.self) o now)
