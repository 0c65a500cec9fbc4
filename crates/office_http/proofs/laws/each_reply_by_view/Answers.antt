use Rattle.office_http.proofs.IsolationLemmas.{each_by_view}
use Rattle.office_http.proofs.laws.each_reply_by_view.Goals as goal

pub returns : goal.returns
returns c = each_by_view
