use Rattle.office_model.proofs.ChangeLemmas.{alike}
use Rattle.office_model.proofs.laws.same_changes_same_view.Goals as goal

pub returns : goal.returns
returns c = alike
