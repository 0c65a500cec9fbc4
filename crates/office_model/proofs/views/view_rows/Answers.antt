use Rattle.std.proofs.Common.{◌∙◌, ap, map}
use Rattle.std.proofs.lemmas.Result.{IfOk-weaker}
use Rattle.office_model.specs.ViewRows.{view_row}
use Rattle.office_model.proofs.ViewLemmas.{rows_shown}
use Rattle.office_model.proofs.views.view_rows.Goals as goal

pub returns : goal.returns
returns c =
    let I = c.args.instance.now in
    let enrolled = c.args.enrolled.now in
    let places = c.args.places.now in
    let seats = c.args.seats.now in
    IfOk-weaker c.rows_of.result _ _
    (λ rows is published are.
    is ∙ ap (map (view_row I.periods enrolled places seats))
    (c.deref.ensures.value ∙ c.in_ok-exams.ensures)
    ∙ rows_shown I published enrolled places seats are)
    c.rows_of.ensures
