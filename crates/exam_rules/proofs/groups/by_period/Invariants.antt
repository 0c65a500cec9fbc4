use Rattle.std.proofs.Common.{length}
use Rattle.exam_rules.specs.Groups.{AreGroups}
use Rattle.exam_rules.proofs.groups.by_period.Given as goal

abbrev pub invariant-exams : goal.invariant-exams
invariant-exams l = AreGroups l.timetable (length l.fn.instance.periods) l.exam l.groups.items
