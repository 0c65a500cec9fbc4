use Rattle.std.proofs.Common.{◌∙◌, ap, subst}
use Rattle.std.specs.Io.KnownBytes.{Appends}
use Rattle.office_output.specs.Writing.{WritesFront}
use Rattle.office_check.specs.Check.{status_of}
use Rattle.office_check.proofs.json_report.JsonReportSolutionTask.write.Goals as goal

pub returns-in-Ok-write_text-clause-written : goal.returns-in-Ok-write_text-clause-written
returns-in-Ok-write_text-clause-written g c = record {
  verdict = c.in-Ok.verdict;
  judged = c.in-Ok.ensures;
  written = subst (Appends _ _) (c.as_bytes.ensures.value ∙ c.in-Ok-line.ensures)
      c.in-Ok-write_text.ensures.ok;
  status = c.status.ensures ∙ ap status_of c.in-Ok.ensures.breaches;
}

-- a front of the line was written
pub returns-clause-front : goal.returns-clause-front
returns-clause-front g c = λ is. (
  c.in-Ok.verdict,
  c.in-Ok.ensures,
  subst (WritesFront _ _) (c.as_bytes.ensures.value ∙ c.in-Ok-line.ensures) c.in-Err.ensures.err,
)
