use Rattle.exam_reasons.proofs.StudentLemmas.{own_add_up}
use Rattle.exam_reasons.proofs.laws.own_reasons_add_up.Goals as goal

pub returns : goal.returns
returns c = own_add_up
