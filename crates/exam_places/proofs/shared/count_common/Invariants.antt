use Rattle.std.proofs.Common.{◌+◌, length}
use Rattle.exam_places.proofs.CommonStudents.{IsWalked, common}
use Rattle.exam_places.proofs.shared.count_common.Given as goal

abbrev pub invariant-walk : goal.invariant-walk
invariant-walk l = IsWalked l.left l.right l.count (common l.first l.second)

abbrev pub decreases-walk : goal.decreases-walk
decreases-walk l = length l.left + length l.right
