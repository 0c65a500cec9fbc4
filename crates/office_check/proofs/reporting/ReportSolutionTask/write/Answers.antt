use Rattle.std.proofs.Common.{◌∙◌, subst}
use Rattle.office_output.specs.Writing.{WritesFront}
use Rattle.office_check.proofs.reporting.ReportSolutionTask.write.Goals as goal

-- a front of the report was written
pub returns-clause-front : goal.returns-clause-front
returns-clause-front g c = λ is.
    subst (WritesFront _ _) (c.as_bytes.ensures.value ∙ c.in-Ok.ensures.text) c.in-Err.ensures.err
