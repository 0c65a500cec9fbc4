use Rattle.std.proofs.Common.{[]}
use Rattle.exam_model.specs.declared.conflicts.Conflict.{Conflict}
use Rattle.exam_model.specs.Conflicts.{is_conflict}
use Rattle.exam_rules.specs.Places.{in_one_period}
use Rattle.exam_rules.proofs.FindingLemmas.{AreFound}
use Rattle.exam_rules.proofs.period_rules.listed_clashes.Given as goal

abbrev pub invariant-conflicts : goal.invariant-conflicts
invariant-conflicts l =
    AreFound {X = Conflict} is_conflict (in_one_period l.timetable) [] l.conflicts l.conflict-index
    l.found.items
