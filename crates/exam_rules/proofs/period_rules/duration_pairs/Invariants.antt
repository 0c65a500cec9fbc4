use Rattle.std.proofs.Common.{◌==◌, ◌&&◌}
use Rattle.exam_rules.specs.HardRules.{is_too_long}
use Rattle.exam_rules.proofs.FindingLemmas.{AreFoundBelow}
use Rattle.exam_rules.proofs.period_rules.duration_pairs.Given as goal

abbrev pub invariant-exams : goal.invariant-exams
invariant-exams l =
    AreFoundBelow (λ e f. (e == f) && is_too_long l.instance l.timetable e) l.exam l.found.items
