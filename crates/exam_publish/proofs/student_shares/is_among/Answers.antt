use Rattle.std.proofs.lemmas.Grind.{common_steps}
use Rattle.std.proofs.Common.{arith}
use Rattle.exam_publish.proofs.AmongLemmas.{has_searched}
use Rattle.exam_publish.proofs.student_shares.is_among.Goals as goal

pub returns : goal.returns
returns c =
    grind (arith, common_steps, has_searched, c.is_ok.ensures.value, c.requires, c.binary_search.ensures.position)
