use Rattle.std.proofs.Common.{ℕ, []}
use Rattle.exam_rules.specs.Breaches.{is_one_of}
use Rattle.exam_rules.specs.HardRules.{breaks}
use Rattle.exam_rules.proofs.FindingLemmas.{AreFound}
use Rattle.exam_rules.proofs.first_breach.broken_pairs.Given as goal

abbrev pub invariant-exams : goal.invariant-exams
invariant-exams l =
    AreFound {X = ℕ} (λ e f a. is_one_of a e f)
    (breaks l.site.instance.now l.site.enrolments.now l.site.timetable.now l.rule)
    [] l.edited l.exam-index l.found.items
