use Rattle.office_http.proofs.ClientLemmas.{all_each, all_end, all_quiet_by_view}
use Rattle.office_http.proofs.laws.quiet_clients.Goals as goal

pub returns-clause-end : goal.returns-clause-end
returns-clause-end c = all_end

pub returns-clause-each : goal.returns-clause-each
returns-clause-each c = all_each

pub returns-clause-view : goal.returns-clause-view
returns-clause-view c = all_quiet_by_view
