use Rattle.std.proofs.Common.{◌∙◌}
use Rattle.exam_model.proofs.RollLemmas.{has_searched}
use Rattle.exam_model.proofs.roll.Roll.has.Goals as goal

pub returns : goal.returns
returns c =
    c.is_ok.ensures.value
    ∙ has_searched _ _ _ c.search.ensures.found c.search.ensures.absent
