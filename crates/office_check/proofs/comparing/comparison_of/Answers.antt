use Rattle.office_check.proofs.CompareFacts.{after_unwritten, compared_from, refused_after}
use Rattle.office_check.proofs.comparing.comparison_of.Goals as goal

pub returns-in-Ok-comparison-clause-from : goal.returns-in-Ok-comparison-clause-from
returns-in-Ok-comparison-clause-from g c =
    compared_from _ _ _ _ _ _ _ _ c.in-Ok.ensures.from c.in-Ok-solution_of.ensures.reading
    c.in-Ok-solution_of.ensures.spelled c.in-Ok-comparison.ensures

-- a fault of the second solution
pub returns-in-Err-solution_of-clause-refused : goal.returns-in-Err-solution_of-clause-refused
returns-in-Err-solution_of-clause-refused g c =
    refused_after _ _ _ _ _ _ c.in-Err-solution_of.fault _ c.in-Ok.ensures.reading
    c.in-Err-solution_of.ensures.refused c.of_after.ensures

pub returns-in-Err-solution_of-clause-unwritten : goal.returns-in-Err-solution_of-clause-unwritten
returns-in-Err-solution_of-clause-unwritten g c =
    after_unwritten c.in-Err-solution_of.fault _ c.of_after.ensures
