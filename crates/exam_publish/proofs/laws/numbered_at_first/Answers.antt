use Rattle.exam_publish.proofs.NumberedLemmas.{numbered_first}
use Rattle.exam_publish.proofs.laws.numbered_at_first.Goals as goal

pub returns : goal.returns
returns c E T known = numbered_first E T known
