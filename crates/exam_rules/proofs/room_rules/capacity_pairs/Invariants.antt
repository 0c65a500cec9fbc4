use Rattle.std.proofs.Common.{◌==◌, ◌&&◌}
use Rattle.exam_rules.specs.HardRules.{is_overfull}
use Rattle.exam_rules.proofs.FindingLemmas.{AreFoundBelow}
use Rattle.exam_rules.proofs.room_rules.capacity_pairs.Given as goal

abbrev pub invariant-exams : goal.invariant-exams
invariant-exams l =
    AreFoundBelow (λ e f. (e == f) && is_overfull l.instance l.enrolments l.timetable e)
    l.exam l.found.items
