use Rattle.exam_rules.proofs.MarkLemmas.{AreMarked}
use Rattle.exam_rules.proofs.marks.Marks.add.Given as goal

abbrev pub invariant-students : goal.invariant-students
invariant-students l =
    AreMarked l.fn.self l.students l.fn.exam l.student-index l.self-inside.slots.items
