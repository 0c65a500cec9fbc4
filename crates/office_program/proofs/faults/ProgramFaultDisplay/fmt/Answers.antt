use Rattle.std.proofs.Common.{ap, subst, sym}
use Rattle.std.specs.Fmt.{HasWritten}
use Rattle.office_program.specs.FaultLines.{fault_line}
use Rattle.office_program.proofs.faults.ProgramFaultDisplay.fmt.Goals as goal

pub returns-in-SolutionAt-clause-writes : goal.returns-in-SolutionAt-clause-writes
returns-in-SolutionAt-clause-writes g c plain ok =
    subst (λ text. HasWritten {W = g.row.W.Denot} g.W.Write.write_str_gives c.args.f.now text
    c.write-in-SolutionAt.new.self)
    (sym (ap fault_line c.in-SolutionAt.is)) (c.write-in-SolutionAt.ensures.writes plain ok)
