use Rattle.std.proofs.Common.{◌+◌, ◌∙◌, ap₂, sym, arith}
use Rattle.std.proofs.lemmas.List.{get_or_read}
use Rattle.exam_rules.proofs.LoadLemmas.{loads_more}
use Rattle.exam_rules.proofs.PlaceLemmas.{its_place_exists}
use Rattle.exam_rules.proofs.loads.loads_of.Goals as goal

pub exams-preserved : goal.exams-preserved
exams-preserved c =
    let there = sym (rw c.new-exam.ensures at c.get.ensures) ∙ c.in-Some.is in
    let within = its_place_exists c.args.instance.now _ _ _ c.requires.places there in
    let read = get_or_read c.exams.loads.items c.slot_of-slot.result c.index.result.now
    (omega (arith, c.slot_of-slot.ensures.within)) c.index.ensures 0 in
    let size = c.from.ensures ∙ rw c.new-exam.ensures at c.size.ensures.size in
    rw c.slot_of-slot.ensures.slot
    (loads_more c.exams.invariant there within.0 within.1
    (ap₂ (λ a b. a + b) (rw c.slot_of-slot.ensures.slot at read) size) (omega arith))
