use Rattle.exam_model.proofs.RollLemmas.{searched_roll}
use Rattle.exam_model.proofs.roll.Roll.search.Goals as goal

pub returns : goal.returns
returns c =
    rw (← c.self.view_is, ← c.deref.ensures.value)
    (searched_roll _ _ _ (rw c.deref.ensures.value c.self.invariant)
    c.binary_search.ensures.position)
