use Rattle.office_http.proofs.ClientLemmas.{two_agree, two_quiet}
use Rattle.office_http.proofs.laws.same_view_same_clients.Goals as goal

pub returns-clause-agree : goal.returns-clause-agree
returns-clause-agree c = two_agree

pub returns-clause-quiet : goal.returns-clause-quiet
returns-clause-quiet c = two_quiet
