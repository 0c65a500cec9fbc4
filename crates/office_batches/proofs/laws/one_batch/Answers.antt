use Rattle.office_batches.proofs.BatchLaws.{batch_once}
use Rattle.office_batches.proofs.laws.one_batch.Goals as goal

pub returns : goal.returns
returns c b xs ys t u = batch_once b xs ys t u
