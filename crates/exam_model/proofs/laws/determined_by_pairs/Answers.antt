use Rattle.exam_model.proofs.SameSet.{same_set}
use Rattle.exam_model.proofs.laws.determined_by_pairs.Goals as goal

pub returns : goal.returns
returns c E F e f len same = same_set E F len e.ascending f.ascending same
