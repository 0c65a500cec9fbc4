use Rattle.office_database.proofs.opening.open.Goals as goal

pub returns-in-Ok-clause-opened : goal.returns-in-Ok-clause-opened
returns-in-Ok-clause-opened c = rw c.set_clock.ensures c.in-Ok.ensures.opened
