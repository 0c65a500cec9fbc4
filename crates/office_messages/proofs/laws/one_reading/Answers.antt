use Rattle.office_messages.proofs.OneReading.{one_reading}
use Rattle.office_messages.proofs.laws.one_reading.Goals as goal

pub returns : goal.returns
returns c = λ stream items others end last m o. one_reading items others end last 0 stream m o
