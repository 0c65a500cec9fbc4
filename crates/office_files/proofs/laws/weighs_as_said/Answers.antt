use Rattle.office_files.proofs.WeightLaws.{weighs_as_said}
use Rattle.office_files.proofs.laws.weighs_as_said.Goals as goal

pub returns : goal.returns
returns c b I E spelled = weighs_as_said b I E spelled
