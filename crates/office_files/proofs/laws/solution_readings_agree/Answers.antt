use Rattle.office_files.proofs.FirstFaultLaws.{solution_fault}
use Rattle.office_files.proofs.SolutionLaws.{solution_is_text, text_is_solution}
use Rattle.office_files.proofs.laws.solution_readings_agree.Goals as goal

pub returns-clause-spelled : goal.returns-clause-spelled
returns-clause-spelled c b I T is = solution_is_text I b T is

pub returns-clause-read : goal.returns-clause-read
returns-clause-read c b I T spelled = text_is_solution I b T spelled

pub returns-clause-first : goal.returns-clause-first
returns-clause-first c b I = solution_fault I b
