use Rattle.exam_score.proofs.RegroupingLemmas.{regrouped_by_students}
use Rattle.exam_model.proofs.PairLemmas.{are_pairs}
use Rattle.exam_score.proofs.laws.regrouping.Goals as goal

pub returns : goal.returns
returns c cost E at students is all = regrouped_by_students cost E at students (are_pairs E is) all
