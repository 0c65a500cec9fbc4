use Rattle.exam_model.proofs.StudentLemmas.{with_others, without_others}
use Rattle.exam_model.proofs.laws.others_stay.Goals as goal

pub returns-clause-comes : goal.returns-clause-comes
returns-clause-comes c E s e t other = with_others E s e t other

pub returns-clause-goes : goal.returns-clause-goes
returns-clause-goes c E s e t other = without_others E s e t other
