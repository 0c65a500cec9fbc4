use Rattle.office_http.proofs.IsolationLemmas.{same_changes, same_changes_bytes}
use Rattle.office_http.proofs.laws.same_changes_same_view.Goals as goal

pub returns-clause-view : goal.returns-clause-view
returns-clause-view c = same_changes

pub returns-clause-same : goal.returns-clause-same
returns-clause-same c = same_changes_bytes
