use Rattle.std.proofs.Common.{ℕ, List, [], ◌&&◌, nat_lt}
use Rattle.exam_model.specs.Enrolments.{has_number}
use Rattle.exam_rules.specs.Places.{share_student}
use Rattle.exam_rules.proofs.FindingLemmas.{AreFound}
use Rattle.exam_rules.proofs.period_rules.grouped_clashes.Given as goal

abbrev pub invariant-groups : goal.invariant-groups
invariant-groups l =
    AreFound {X = List ℕ} (λ e f g. has_number g e && has_number g f)
    (λ e f. nat_lt e f && share_student l.enrolments e f)
    [] l.group-items l.group-index l.found.items
