use Rattle.exam_rules.proofs.MarkLemmas.{AreOf}
use Rattle.exam_rules.proofs.marks.Marks.of.Given as goal

abbrev pub invariant-students : goal.invariant-students
invariant-students l = AreOf l.self l.students l.student-index l.all
