use Rattle.std.proofs.Common.{rules, ◌≡◌, ◌<◌, ◌++◌, ◌∷◌, map, length, take, None, Some, get_or, ◌∙◌, sym, ap, []}
use Rattle.std.proofs.lemmas.List.{append-nil, map-append}
use Rattle.office_tables.specs.declared.tables.slot.SlotRow.{SlotRow}
use Rattle.office_tables.specs.Tables.Slot.{InsertSlot}
use Rattle.office_records.specs.TableRows.{slot_row, slots_from}
use Rattle.office_store.proofs.CallLemmas.{slots_more, same_row}
use Rattle.office_store.proofs.drafting.slot_rows.Goals as goal
use Rattle.office_store.proofs.drafting.slot_rows.Goals.{in-Some+in_ok-push, in_default}

pub loop-exam-preserved : goal.loop-exam-preserved
loop-exam-preserved c =
    let d = c.args.draft in
    let T = c.args.timetable.now in
    let e = c.loop-exam.exam in
    let of : InsertSlot → SlotRow = λ it. it.row in
    let within : e < length T = search rules in
    let read : get_or T e None ≡ c.get.result
    = ap (λ n. get_or T n None) (sym c.new.ensures) ∙ sym c.get.ensures in
    elim c.match-get.branch [
      | in-Some+in_ok-push w ↦
          let at = w.in-Some.place in
          let period = w.get-in-Some.result in
          let room = w.get-in-Some-2.result in
          let row = slot_row d e (record { period = period; room = room }) in
          ap (λ r. map of r.items) w.rows-is ∙ ap (map of) w.in_ok-push.ensures.items
          ∙ map-append of c.loop-exam.rows.items (record { row = row } ∷ [])
          ∙ ap (λ l. l ++ row ∷ []) c.loop-exam.invariant
          ∙ ap (λ r. slots_from d 0 (take e T) ++ r ∷ [])
          (same_row d e at _ _ w.get-in-Some.ensures w.get-in-Some-2.ensures)
          ∙ sym (slots_more d e T (Some at) within (read ∙ w.in-Some.is))
      | in_default w ↦
          ap (λ r. map of r.items) w.rows-is ∙ c.loop-exam.invariant
          ∙ sym (append-nil (slots_from d 0 (take e T)))
          ∙ sym (slots_more d e T None within (read ∙ w.in_default.is))
    ]
