use Rattle.std.proofs.Common.{◌≡◌, List, ◌∷◌, ◌++◌, map, take, Option, sym, ◌∙◌, ap, []}
use Rattle.std.proofs.lemmas.List.{map-append, take_more}
use Rattle.office_tables.specs.declared.altering.Both.{Both}
use Rattle.office_tables.specs.declared.tables.slot.DeleteSlot.{DeleteSlot}
use Rattle.office_tables.specs.Tables.Slot.{InsertSlot}
use Rattle.office_store.specs.Changes.{move_writes, new_place}
use Rattle.office_store.proofs.editing.new_places.Goals as goal

pub loop-exam-preserved : goal.loop-exam-preserved
loop-exam-preserved c =
    let d = c.args.draft in
    let T = c.args.timetable.now in
    let exams = c.args.exams.now in
    let i = c.loop-exam.exam-index in
    let e = c.exam-item.result in
    let is : c.move_writes.result ≡ new_place d T e = c.move_writes.ensures ∙ ap (move_writes d e) c.get.ensures in
    c.in_ok-push.ensures.items
    ∙ ap (λ (l : List (Both DeleteSlot (Option InsertSlot))). l ++ c.move_writes.result ∷ [])
    c.loop-exam.invariant
    ∙ ap (λ x. map (new_place d T) (take i exams) ++ x ∷ []) is
    ∙ sym (map-append (new_place d T) (take i exams) (e ∷ []))
    ∙ ap (map (new_place d T))
    (ap (λ x. take i exams ++ x ∷ []) c.exam-item.is
    ∙ sym (take_more exams i e c.loop-exam-test.true))
