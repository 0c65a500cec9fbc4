use Rattle.office_http.proofs.ClientLemmas.{all_given_trace}
use Rattle.office_http.proofs.laws.each_client_by_view.Goals as goal

pub returns : goal.returns
returns c = all_given_trace
