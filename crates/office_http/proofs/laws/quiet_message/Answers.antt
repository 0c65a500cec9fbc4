use Rattle.office_http.proofs.IsolationLemmas.{quiet_leaves}
use Rattle.office_http.proofs.laws.quiet_message.Goals as goal

pub returns : goal.returns
returns c = quiet_leaves
