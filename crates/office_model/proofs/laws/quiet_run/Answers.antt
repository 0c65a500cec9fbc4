use Rattle.office_model.proofs.QuietLemmas.{quiet_many}
use Rattle.office_model.proofs.laws.quiet_run.Goals as goal

pub returns : goal.returns
returns c = quiet_many
