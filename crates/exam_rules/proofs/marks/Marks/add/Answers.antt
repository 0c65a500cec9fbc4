use Rattle.std.proofs.Common.{ℕ, ◌≡◌, ◌<◌, length, get_or, subst}
use Rattle.std.proofs.lemmas.List.{get_or_read}
use Rattle.exam_rules.specs.Marks.{slot_of}
use Rattle.exam_rules.proofs.MarkLemmas.{marked_more}
use Rattle.exam_rules.proofs.marks.Marks.add.Goals as goal

pub students-preserved : goal.students-preserved
students-preserved c =
    let x : ℕ = c.student-item.result in
    let slots = c.students.self-inside.slots.items in
    let at : ℕ = c.slot_in-slot.result in
    let same : at ≡ slot_of (length slots) x =
    subst (λ l. at ≡ slot_of (length l) x) c.deref.ensures.value c.slot_in-slot.ensures.slot in
    let within : at < length slots =
    subst (λ l. at < length l) c.deref.ensures.value c.slot_in-slot.ensures.exists in
    let read = get_or_read slots at c.index.result.now within c.index.ensures 0 in
    let here : c.index.result.now ≡ get_or slots (slot_of (length slots) x) 0 = cc (read, same) in
    rw (here, same, c.get.ensures)
    (marked_more x c.students.invariant c.students-test.true c.student-item.is)
