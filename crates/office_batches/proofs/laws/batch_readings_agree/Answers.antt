use Rattle.office_batches.proofs.BatchLaws.{batch_spelled, batch_read, batch_fault}
use Rattle.office_batches.proofs.laws.batch_readings_agree.Goals as goal

pub returns-clause-spelled : goal.returns-clause-spelled
returns-clause-spelled c b xs is = batch_spelled b xs is

pub returns-clause-read : goal.returns-clause-read
returns-clause-read c b xs t = batch_read b xs t

pub returns-clause-first : goal.returns-clause-first
returns-clause-first c b = batch_fault b
