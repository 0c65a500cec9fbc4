use Rattle.office_files.proofs.CanonicalInstance.{instance_spelled}
use Rattle.office_files.proofs.laws.canonical_instance_reads_back.Goals as goal

pub returns : goal.returns
returns c I E is kept fits = instance_spelled I E is kept fits
