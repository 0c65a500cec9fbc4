use Rattle.std.proofs.Common.{ℕ, ◌≡◌, length, subst}
use Rattle.exam_rules.specs.Marks.{slot_of}
use Rattle.exam_rules.proofs.MarkLemmas.{cleared_more}
use Rattle.exam_rules.proofs.marks.Marks.clear.Goals as goal

pub students-preserved : goal.students-preserved
students-preserved c =
    let x : ℕ = c.student-item.result in
    let slots = c.students.self-inside.slots.items in
    let same : c.slot_in-slot.result ≡ slot_of (length slots) x =
    subst (λ l. c.slot_in-slot.result ≡ slot_of (length l) x) c.deref.ensures.value
    c.slot_in-slot.ensures.slot in
    rw same
    (cleared_more x c.students.invariant c.students-test.true c.student-item.is)
