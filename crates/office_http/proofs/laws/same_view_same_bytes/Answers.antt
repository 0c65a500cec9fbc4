use Rattle.office_http.proofs.IsolationLemmas.{same_bytes}
use Rattle.office_http.proofs.laws.same_view_same_bytes.Goals as goal

pub returns : goal.returns
returns c = same_bytes
