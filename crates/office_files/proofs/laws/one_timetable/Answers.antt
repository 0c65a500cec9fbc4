use Rattle.exam_lists.proofs.Results.{ok_same}
use Rattle.office_files.specs.SolutionText.{solution_in}
use Rattle.office_files.proofs.SolutionLaws.{text_is_solution}
use Rattle.office_files.proofs.laws.one_timetable.Goals as goal

pub returns : goal.returns
returns c b I S T one other =
    ok_same (solution_in I b) S T (text_is_solution I b S one) (text_is_solution I b T other)
