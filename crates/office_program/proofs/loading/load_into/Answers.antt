use Rattle.std.proofs.Common.{Err, Ok}
use Rattle.office_program.specs.declared.loading.LoadFault.TheVariants as fault
use Rattle.office_program.proofs.LoadFacts.{load_survives}
use Rattle.office_program.proofs.loading.load_into.Goals as goal

pub returns-in-Err-clause-survives : goal.returns-in-Err-clause-survives
returns-in-Err-clause-survives g c =
    load_survives g.S.Store c.args.text.now c.args.office.now c.load.new.self (Err c.in-Err.fault)
    (Err (fault.Store c.in-Err.fault)) c.in-Err.ensures.leaves (λ failed. failed)

pub returns-in-Ok-print_loaded-clause-survives : goal.returns-in-Ok-print_loaded-clause-survives
returns-in-Ok-print_loaded-clause-survives g c =
    load_survives g.S.Store c.args.text.now c.args.office.now c.load.new.self (Ok c.in-Ok.loaded)
    (Ok tt) c.in-Ok.ensures.leaves (λ failed. tt)

pub returns-in-Err-print_loaded-clause-survives : goal.returns-in-Err-print_loaded-clause-survives
returns-in-Err-print_loaded-clause-survives g c =
    load_survives g.S.Store c.args.text.now c.args.office.now c.load.new.self (Ok c.in-Ok.loaded)
    (Err fault.Write) c.in-Ok.ensures.leaves (λ failed. tt)
