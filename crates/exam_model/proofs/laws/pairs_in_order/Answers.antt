use Rattle.exam_model.proofs.PairLemmas.{are_pairs}
use Rattle.exam_model.proofs.laws.pairs_in_order.Goals as goal

pub returns : goal.returns
returns c E is = are_pairs E is
