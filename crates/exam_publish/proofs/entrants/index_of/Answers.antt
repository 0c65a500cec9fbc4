use Rattle.std.proofs.Common.{rules, refl}
use Rattle.std.proofs.lemmas.List.Sorted.{answers_always}
use Rattle.exam_model.specs.Pairs.{Pair}
use Rattle.exam_publish.specs.declared.seat_row.SeatRow.{SeatRow}
use Rattle.exam_publish.proofs.SearchLemmas.{index_found, index_here, index_none}
use Rattle.exam_publish.proofs.entrants.index_of.Goals as goal

pub returns-then-is_row_of : goal.returns-then-is_row_of
returns-then-is_row_of c =
    index_here c.args.old.now (record { exam = c.args.exam; student = c.args.student })
    c.args.first c.requires (c.if-is_row_of.ensures refl)

pub returns-in_default : goal.returns-in_default
returns-in_default c =
    let p : Pair = record { exam = c.args.exam; student = c.args.student } in
    index_none c.args.old.now p c.in_default.field-0 c.requires
    (c.in_default.ensures.position (λ (row : SeatRow). (row.exam, row.student))
    (answers_always _ _ _ (λ f a r g called. search rules)))

pub returns : goal.returns
returns c =
    let p : Pair = record { exam = c.args.exam; student = c.args.student } in
    index_found c.args.old.now p c.in-Ok.at c.requires c.in-Ok.ensures.bound
    (c.in-Ok.ensures.position (λ (row : SeatRow). (row.exam, row.student))
    (answers_always _ _ _ (λ f a r g called. search rules)))
