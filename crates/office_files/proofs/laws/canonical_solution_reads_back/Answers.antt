use Rattle.office_files.proofs.CanonicalSolution.{solution_spelled}
use Rattle.office_files.proofs.laws.canonical_solution_reads_back.Goals as goal

pub returns : goal.returns
returns c I T suits complete = solution_spelled I T suits complete
