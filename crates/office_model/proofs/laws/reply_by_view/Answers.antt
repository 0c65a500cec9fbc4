use Rattle.office_model.proofs.AnswerLemmas.{candidate_answer}
use Rattle.office_model.proofs.laws.reply_by_view.Goals as goal

pub returns : goal.returns
returns c = candidate_answer
