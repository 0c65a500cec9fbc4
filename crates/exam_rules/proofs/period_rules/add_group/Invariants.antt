use Rattle.std.proofs.Common.{ℕ, ◌==◌, ◌&&◌, nat_lt}
use Rattle.exam_model.specs.Enrolments.{has_number}
use Rattle.exam_rules.specs.Places.{share_student}
use Rattle.exam_rules.proofs.FindingLemmas.{AreFound}
use Rattle.exam_rules.proofs.period_rules.add_group.Given as goal

abbrev pub invariant-exams : goal.invariant-exams
invariant-exams l =
    AreFound {X = ℕ} (λ e f k. k == e)
    (λ e f. has_number l.group f && (nat_lt e f && share_student l.enrolments e f))
    l.fn.found.items l.group l.exam-index l.found.items
