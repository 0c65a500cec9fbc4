use Rattle.std.proofs.Common.{length}
use Rattle.exam_rules.specs.Loads.{AreLoads}
use Rattle.exam_rules.proofs.loads.loads_of.Given as goal

abbrev pub invariant-exams : goal.invariant-exams
invariant-exams l =
    AreLoads l.enrolments l.timetable (length l.instance.periods)
    (length l.instance.rooms) l.exam l.loads.items
