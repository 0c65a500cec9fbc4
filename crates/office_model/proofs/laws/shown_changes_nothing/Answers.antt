use Rattle.office_model.proofs.AnswerLemmas.{shown_stays}
use Rattle.office_model.proofs.laws.shown_changes_nothing.Goals as goal

pub returns : goal.returns
returns c = shown_stays
