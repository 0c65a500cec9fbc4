use Rattle.office_http.proofs.CandidateLemmas.{replies_view}
use Rattle.office_http.proofs.IsolationLemmas.{stays}
use Rattle.office_http.proofs.laws.reply_by_view.Goals as goal

pub returns-clause-view : goal.returns-clause-view
returns-clause-view c = replies_view

pub returns-clause-stays : goal.returns-clause-stays
returns-clause-stays c = stays
