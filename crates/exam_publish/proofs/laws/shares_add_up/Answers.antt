use Rattle.exam_publish.proofs.AddUpLemmas.{adds_up}
use Rattle.exam_publish.proofs.laws.shares_add_up.Goals as goal

pub returns : goal.returns
returns c I rows T known are numbered = adds_up I rows T known are numbered
