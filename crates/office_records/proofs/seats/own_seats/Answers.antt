use Rattle.std.proofs.Common.{sym, ◌∙◌, arith}
use Rattle.std.proofs.lemmas.List.{take_all}
use Rattle.office_records.proofs.SeatRowLemmas.{not_numbered, same_seats}
use Rattle.office_records.proofs.seats.own_seats.Goals as goal

pub returns-in_default-clause-none : goal.returns-in_default-clause-none
returns-in_default-clause-none c is own numbered same =
    not_numbered c.args.rows.now own numbered same c.rows.row-index _ c.rows-test.true
    c.in_default.ensures.none

pub returns-clause-only : goal.returns-clause-only
returns-clause-only c own same =
    let rows = c.args.rows.now in
    same_seats c.rows.seats.items own
    (c.rows.invariant ∙ take_all c.rows.row-index rows (omega arith) ∙ sym same)
