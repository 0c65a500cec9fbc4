use Rattle.office_check.proofs.checking.solution_of.Goals as goal

pub returns-clause-spelled : goal.returns-clause-spelled
returns-clause-spelled g c = (c.deref.result.now, c.in_ok-read_solution.ensures.reading)
