use Rattle.exam_rules.proofs.MarkLemmas.{AreCleared}
use Rattle.exam_rules.proofs.marks.Marks.clear.Given as goal

abbrev pub invariant-students : goal.invariant-students
invariant-students l = AreCleared l.fn.self l.students l.student-index l.self-inside.slots.items
