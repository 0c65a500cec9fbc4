use Rattle.exam_score.proofs.SittingLemmas.{sorted_sittings}
use Rattle.exam_score.proofs.sittings.sittings_of.Goals as goal

pub returns-clause-ascending : goal.returns-clause-ascending
returns-clause-ascending c =
    sorted_sittings c.sort_unstable.new.self.items c.sort_unstable.ensures.sorted
