use Rattle.office_files.proofs.InstanceLaws.{one_reading}
use Rattle.office_files.proofs.laws.one_instance.Goals as goal

pub returns : goal.returns
returns c b I J E F one other = one_reading b I J E F one other
