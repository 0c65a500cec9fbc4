use Rattle.office_messages.proofs.OneReading.{front_of_messages}
use Rattle.office_messages.proofs.laws.front_of_messages.Goals as goal

pub returns : goal.returns
returns c = λ stream front items end b m. front_of_messages front items end 0 stream b m
