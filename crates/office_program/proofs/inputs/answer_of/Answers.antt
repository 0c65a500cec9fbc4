use Rattle.std.proofs.Common.{ap}
use Rattle.office_program.proofs.SourceFacts.{of_watched}
use Rattle.office_program.proofs.inputs.answer_of.Goals as goal

-- the texts of watched readers are those of the readers
pub returns-in-Ok-clause-from : goal.returns-in-Ok-clause-from
returns-in-Ok-clause-from g c = of_watched (g.R.Read.remaining c.args.instance.now)
    (g.Q.Read.remaining c.args.solution.now) (g.R.Read.remaining c.new-first.result.reader.now)
    (g.Q.Read.remaining c.new-second.result.reader.now) c.new-first.result.has_failed
    c.new-second.result.has_failed _ c.new-first.ensures.unfailed c.new-second.ensures.unfailed
    (ap g.R.Read.remaining c.new-first.ensures.reader)
    (ap g.Q.Read.remaining c.new-second.ensures.reader) c.in-Ok.ensures.from

-- also if a write failed
pub returns-in-Err-clause-front : goal.returns-in-Err-clause-front
returns-in-Err-clause-front g c = λ is. of_watched (g.R.Read.remaining c.args.instance.now)
    (g.Q.Read.remaining c.args.solution.now) (g.R.Read.remaining c.new-first.result.reader.now)
    (g.Q.Read.remaining c.new-second.result.reader.now) c.new-first.result.has_failed
    c.new-second.result.has_failed _ c.new-first.ensures.unfailed c.new-second.ensures.unfailed
    (ap g.R.Read.remaining c.new-first.ensures.reader)
    (ap g.Q.Read.remaining c.new-second.ensures.reader)
    (c.in-Err.ensures.front (c.check_fault.ensures.only is))
