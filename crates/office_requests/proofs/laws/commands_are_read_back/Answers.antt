use Rattle.office_requests.proofs.RoundTripLemmas.{read_back}
use Rattle.office_requests.proofs.laws.commands_are_read_back.Goals as goal

pub returns : goal.returns
returns c = read_back
