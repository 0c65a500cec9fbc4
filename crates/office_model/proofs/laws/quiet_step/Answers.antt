use Rattle.office_model.proofs.QuietLemmas.{quiet_one}
use Rattle.office_model.proofs.laws.quiet_step.Goals as goal

pub returns : goal.returns
returns c = quiet_one
