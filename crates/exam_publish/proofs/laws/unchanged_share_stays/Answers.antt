use Rattle.exam_publish.proofs.ShareLemmas.{same_share}
use Rattle.exam_publish.proofs.laws.unchanged_share_stays.Goals as goal

pub returns : goal.returns
returns c I old new s h = same_share I old new s h
