use Rattle.office_http.proofs.UnavailableLemmas.{unavailable_leaves}
use Rattle.office_http.proofs.laws.unavailable_changes_nothing.Goals as goal

pub returns : goal.returns
returns c = unavailable_leaves
