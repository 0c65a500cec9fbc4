use Rattle.office_model.proofs.AnswerLemmas.{same_answered}
use Rattle.office_model.proofs.laws.same_view_same_answer.Goals as goal

pub returns : goal.returns
returns c = same_answered
