use Rattle.std.proofs.Common.{◌+◌, length}
use Rattle.std.specs.List.{list_any}
use Rattle.exam_model.specs.Enrolments.{has_number}
use Rattle.exam_rules.proofs.CommonLemmas.{IsWalked}
use Rattle.exam_rules.proofs.relations.have_common.Given as goal

abbrev pub invariant-walk : goal.invariant-walk
invariant-walk l = IsWalked l.left l.right (list_any (λ s. has_number l.second s) l.first)

abbrev pub decreases-walk : goal.decreases-walk
decreases-walk l = length l.left + length l.right
