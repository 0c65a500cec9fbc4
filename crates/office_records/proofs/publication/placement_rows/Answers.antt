use Rattle.std.proofs.Common.{ℕ, ◌<◌, ◌++◌, List, [], ◌∷◌, Global, Vec, length, sym, ◌∙◌, ap, ap₂, arith}
use Rattle.std.proofs.lemmas.List.{append-nil}
use Rattle.exam_model.specs.Timetable.{place_of}
use Rattle.office_tables.specs.declared.tables.placed.PlacedRow.{PlacedRow}
use Rattle.office_records.specs.Publications.{placed_row}
use Rattle.office_records.proofs.PlacedRowLemmas.{placed_next}
use Rattle.office_records.proofs.publication.placement_rows.Goals as goal
use Rattle.office_records.proofs.publication.placement_rows.Goals.{in-Some+in_ok-push, in_default}

abbrev items : Vec PlacedRow Global → List PlacedRow
items rows = rows.items

pub exams-preserved : goal.exams-preserved
exams-preserved c =
    let T = c.args.timetable.now in
    let e = c.exams.exam in
    let within : e < length T = omega (arith, c.exams-test.true, c.exams-exam-end.ensures.count) in
    let is_known = sym (c.get.ensures ∙ ap (place_of T) c.new.ensures) in
    elim c.match-get.branch [
      | in-Some+in_ok-push w ↦
          (let row : ℕ → ℕ → PlacedRow = λ p r. record { exam = e; period = p; room = r } in
          ap items w.rows-is ∙ w.in_ok-push.ensures.items
          ∙ ap₂ (λ p r. c.exams.rows.items ++ row p r ∷ []) w.get-in-Some.ensures
          w.get-in-Some-2.ensures
          ∙ ap (λ l. l ++ placed_row e w.in-Some.place ∷ []) c.exams.invariant
          ∙ sym (placed_next e T within _ (is_known ∙ w.in-Some.is)))
      | in_default w ↦
          ap items w.rows-is ∙ c.exams.invariant
          ∙ sym (placed_next e T within _ (is_known ∙ w.in_default.is) ∙ append-nil _)
    ]
