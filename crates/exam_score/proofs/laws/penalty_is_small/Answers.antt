use Rattle.exam_score.proofs.SmallLemmas.{penalty_small}
use Rattle.exam_score.proofs.laws.penalty_is_small.Goals as goal

pub returns : goal.returns
returns c I E T known enrolled fits = penalty_small I E T known enrolled fits
