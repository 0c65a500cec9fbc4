use Rattle.office_check.proofs.CheckFacts.{read_as, read_from, solution_refused, solution_unwritten}
use Rattle.office_check.proofs.checking.files_of.Goals as goal

pub returns-in-Ok-solution_of-clause-reading : goal.returns-in-Ok-solution_of-clause-reading
returns-in-Ok-solution_of-clause-reading g c =
    read_as _ _ _ _ _ c.in-Ok.ensures.reading c.in-Ok-solution_of.ensures.reading

pub returns-in-Ok-solution_of-clause-from : goal.returns-in-Ok-solution_of-clause-from
returns-in-Ok-solution_of-clause-from g c =
    read_from _ _ _ _ _ c.in-Ok.ensures.reading c.in-Ok.ensures.spelled
    c.in-Ok-solution_of.ensures.reading c.in-Ok-solution_of.ensures.spelled

pub returns-in-Err-solution_of-clause-refused : goal.returns-in-Err-solution_of-clause-refused
returns-in-Err-solution_of-clause-refused g c =
    solution_refused _ _ _ _ c.in-Err-solution_of.fault _ c.in-Ok.ensures.reading
    c.in-Err-solution_of.ensures.refused c.of_solution.ensures

pub returns-in-Err-solution_of-clause-unwritten : goal.returns-in-Err-solution_of-clause-unwritten
returns-in-Err-solution_of-clause-unwritten g c =
    solution_unwritten c.in-Err-solution_of.fault _ c.of_solution.ensures
