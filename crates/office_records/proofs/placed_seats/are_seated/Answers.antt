use Rattle.std.proofs.Common.{refl, subst, arith}
use Rattle.std.specs.Prelude.{All}
use Rattle.std.proofs.lemmas.List.{take_all}
use Rattle.std.proofs.lemmas.List.Elements.{All-more}
use Rattle.exam_publish.specs.declared.seat_row.SeatRow.{SeatRow}
use Rattle.office_records.specs.FoundPublications.{IsSeatedRow}
use Rattle.office_records.proofs.placed_seats.are_seated.Goals as goal

pub rows-preserved : goal.rows-preserved
rows-preserved c =
    let I = c.args.instance.now in
    let T = c.args.timetable.now in
    All-more (IsSeatedRow I T) c.args.rows.now c.rows.row-index c.row-item.result c.rows-test.true
    c.rows.invariant
    (subst (λ (row : SeatRow). IsSeatedRow I T row) c.row-item.is
    (c.is_seated.ensures.0 c.if-not-is_seated.false))

pub returns : goal.returns
returns c =
    let rows = c.args.rows.now in (
      λ _. subst (All (IsSeatedRow c.args.instance.now c.args.timetable.now))
          (take_all c.rows.row-index rows (omega arith)) c.rows.invariant,
      λ _. refl,
    )
