use Rattle.std.proofs.Common.{◌++◌, ◌∷◌, [], ◌∙◌, ℕ, List, ap₂, sym, arith}
use Rattle.std.proofs.lemmas.Bool.{true≢false}
use Rattle.std.proofs.lemmas.List.{get_or_read}
use Rattle.office_reports.proofs.SlotLemmas.{exam_outside, exam_put, exam_unplaced}
use Rattle.office_reports.proofs.slots.exams_by_slot.Goals as goal
use Rattle.office_reports.proofs.slots.exams_by_slot.Goals.{then-has_place+in_ok-push, else-has_place}

pub exams-preserved-in_default : goal.exams-preserved-in_default
exams-preserved-in_default c =
    exam_unplaced c.args.timetable.now c.exams.number c.exams.invariant
    (sym (rw c.new-exam.ensures at c.get.ensures) ∙ c.in_default.is)

pub slot_of-requires-clause-period : goal.slot_of-requires-clause-period
slot_of-requires-clause-period c = (c.has_place.ensures.0 c.if-has_place.true).0

pub slot_of-requires-clause-room : goal.slot_of-requires-clause-room
slot_of-requires-clause-room c = (c.has_place.ensures.0 c.if-has_place.true).1

pub exams-preserved : goal.exams-preserved
exams-preserved c =
    let T = c.args.timetable.now in
    let i = c.exams.number in
    let there = sym (rw c.new-exam.ensures at c.get.ensures) ∙ c.in-Some.is in
    elim c.if-has_place.branch [
      | then-has_place+in_ok-push w ↦
          let exists = c.has_place.ensures.0 w.if-has_place.true in
          let read =
          get_or_read c.exams.lists.items w.slot_of.result w.index_mut.result.now
          (omega (arith, w.slot_of.ensures.within, c.exams.invariant.count))
          w.index_mut.ensures.value [] in
          let put =
          w.in_ok-push.ensures.added
          ∙ ap₂ (λ (xs : List ℕ) (e : ℕ). xs ++ e ∷ [])
          (rw w.slot_of.ensures.slot at read) c.new-exam.ensures in
          rw (w.lists-is, w.slot_of.ensures.slot) (exam_put T i c.exams.invariant there exists put)
      | else-has_place w ↦
          rw w.lists-is (exam_outside T i c.exams.invariant there
          (λ h. true≢false (sym (c.has_place.ensures.1 h) ∙ w.if-has_place.false)))
    ]
