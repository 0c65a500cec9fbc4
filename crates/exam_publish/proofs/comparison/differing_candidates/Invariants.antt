use Rattle.std.proofs.Common.{◌+◌, length}
use Rattle.exam_publish.proofs.ChangedLemmas.{IsCompared}
use Rattle.exam_publish.proofs.comparison.differing_candidates.Given as goal

abbrev pub invariant-walk : goal.invariant-walk
invariant-walk l = IsCompared l.old l.new l.left l.right l.found.items

abbrev pub decreases-walk : goal.decreases-walk
decreases-walk l = length l.left + length l.right
