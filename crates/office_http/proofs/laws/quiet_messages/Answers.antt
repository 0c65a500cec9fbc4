use Rattle.office_http.proofs.IsolationLemmas.{quiet_each, quiet_end, quiet_by_view}
use Rattle.office_http.proofs.laws.quiet_messages.Goals as goal

pub returns-clause-end : goal.returns-clause-end
returns-clause-end c = quiet_end

pub returns-clause-each : goal.returns-clause-each
returns-clause-each c = quiet_each

pub returns-clause-view : goal.returns-clause-view
returns-clause-view c = quiet_by_view
