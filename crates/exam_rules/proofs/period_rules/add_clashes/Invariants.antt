use Rattle.std.proofs.Common.{ℕ, ◌==◌, ◌&&◌, nat_lt}
use Rattle.exam_rules.specs.Places.{share_student}
use Rattle.exam_rules.proofs.FindingLemmas.{AreFound}
use Rattle.exam_rules.proofs.period_rules.add_clashes.Given as goal

abbrev pub invariant-others : goal.invariant-others
invariant-others l =
    AreFound {X = ℕ} (λ e f k. k == f)
    (λ e f. (l.exam == e) && (nat_lt e f && share_student l.enrolments e f))
    l.fn.found.items l.group l.other-index l.found.items
