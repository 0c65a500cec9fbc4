use Rattle.std.proofs.lemmas.Grind.{common_steps}
use Rattle.std.proofs.Common.{◌≡◌, ◌+◌, ◌<◌, ◌++◌, ◌∷◌, [], ◌∙◌, ℕ, Bool, cond, List, ap, get_or, length, sym, take, append-nil, arith}
use Rattle.std.proofs.lemmas.List.{take_more}
use Rattle.std.proofs.lemmas.List.Elements.{filter-append}
use Rattle.exam_model.specs.Enrolments.{has_number}
use Rattle.exam_publish.specs.declared.seat_row.SeatRow.{SeatRow}
use Rattle.exam_publish.specs.Changed.{rows_among}
use Rattle.exam_publish.proofs.student_shares.rows_among.Goals as goal
use Rattle.exam_publish.proofs.student_shares.rows_among.Goals.{then-is_among+in_ok-push, else-is_among}

-- one more row
more : (students : List ℕ) (rows : List SeatRow) (i : ℕ) (row : SeatRow)
    → i < length rows → row ≡ get_or rows i row
    → rows_among students (take (i + 1) rows)
    ≡ rows_among students (take i rows) ++ cond (has_number students row.student) (row ∷ []) []
more students rows i row within is = grind (arith, common_steps, take_more, filter-append)

pub rows-preserved : goal.rows-preserved
rows-preserved c =
    let students = c.args.students.now in
    let rows = c.args.rows.now in
    let row = c.row-item.result in
    let so_far = rows_among students (take c.rows.row-index rows) in
    let next : (b : Bool) → c.is_among.result ≡ b
    → rows_among students (take (c.rows.row-index + 1) rows) ≡ so_far ++ cond b (row ∷ []) []
    = λ b is. more students rows c.rows.row-index row c.rows-test.true c.row-item.is
    ∙ ap (λ b. so_far ++ cond b (row ∷ []) []) (sym c.is_among.ensures ∙ is) in
    elim c.if-is_among.branch [
      | then-is_among+in_ok-push w ↦
          rw w.own-is (
          w.in_ok-push.ensures.items ∙ ap (λ xs. xs ++ row ∷ []) c.rows.invariant
          ∙ sym (next _ w.if-is_among.true)
          )
      | else-is_among w ↦
          rw w.own-is (
          c.rows.invariant ∙ sym (next _ w.if-is_among.false ∙ append-nil so_far)
          )
    ]
