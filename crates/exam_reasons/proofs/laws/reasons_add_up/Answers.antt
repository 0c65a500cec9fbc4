use Rattle.exam_reasons.proofs.SumLemmas.{add_up}
use Rattle.exam_reasons.proofs.laws.reasons_add_up.Goals as goal

pub returns : goal.returns
returns c = add_up
