use Rattle.std.proofs.Common.{[], None, replicate, sym, ◌∙◌, subst, ap}
use Rattle.exam_lists.proofs.Results.{IfErr_any}
use Rattle.office_records.specs.Found.{AreSlots}
use Rattle.office_records.proofs.SlotLemmas.{no_slots, next_other, next_put, next_bad}
use Rattle.office_records.proofs.timetable.timetable_of.Goals as goal
use Rattle.office_records.proofs.timetable.timetable_of.Goals.{then-row-draft+in_ok-put_slot, else-row-draft}

pub loop-row-init : goal.loop-row-init
loop-row-init c =
    subst (AreSlots c.args.instance.now c.args.draft [])
    (sym (c.in_ok-timetable.ensures ∙ ap (λ n. replicate n None) c.exams.ensures.count))
    (no_slots c.args.instance.now c.args.draft)

pub returns-in_err-put_slot-clause-none : goal.returns-in_err-put_slot-clause-none
returns-in_err-put_slot-clause-none c =
    IfErr_any c.from_residual-in_err-put_slot.result _
    (λ _ _. next_bad c.args.instance.now c.args.draft c.loop-row.row-index c.args.slots.now _
    c.loop-row-test.true c.loop-row.timetable c.loop-row.invariant c.if-row-draft.true
    c.in_err-put_slot.ensures.bad)

pub loop-row-preserved : goal.loop-row-preserved
loop-row-preserved c =
    let I = c.args.instance.now in
    let d = c.args.draft in
    let i = c.loop-row.row-index in
    elim c.if-row-draft.branch [
      | then-row-draft+in_ok-put_slot w ↦
          subst (AreSlots I d _) (sym w.timetable-is)
          (next_put I d i c.args.slots.now _ c.loop-row-test.true c.loop-row.timetable
          c.loop-row.invariant w.if-row-draft.true _ w.in_ok-put_slot.ensures.put)
      | else-row-draft w ↦
          subst (AreSlots I d _) (sym w.timetable-is)
          (next_other I d i c.args.slots.now _ c.loop-row-test.true c.loop-row.timetable
          c.loop-row.invariant w.if-row-draft.false)
    ]
