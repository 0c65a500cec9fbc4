use Rattle.std.proofs.Common.{◌∙◌}
use Rattle.office_store.proofs.office.Office.candidate_view.Goals as goal

pub returns-clause-reads : goal.returns-clause-reads
returns-clause-reads g c clean o now =
    let exams = c.in_ok-exams.ensures.reads (c.candidate_penalty.ensures.leaves.clean clean) o now
    in
    let personal = c.in_ok-personal.ensures.reads clean o exams.1 in (
      c.new.ensures
          ∙ (λ i. record { student = c.args.student; exams = exams.0 i; personal = personal.0 i }),
      personal.1,
    )
