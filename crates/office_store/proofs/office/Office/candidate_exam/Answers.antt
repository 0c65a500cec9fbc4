use Rattle.std.proofs.Common.{◌==◌, ap, ◌∙◌}
use Rattle.std.specs.Prelude.{find}
use Rattle.office_model.specs.declared.views.ViewRow.{ViewRow}
use Rattle.office_store.proofs.office.Office.candidate_exam.Goals as goal

pub returns-clause-reads : goal.returns-clause-reads
returns-clause-reads g c clean o now =
    let exams = c.in_ok-rows.ensures.reads clean o now in (
      c.row_of.ensures
          ∙ ap (find (λ (row : ViewRow). row.exam == c.args.exam))
          (c.deref.ensures.value ∙ exams.0),
      exams.1,
    )
