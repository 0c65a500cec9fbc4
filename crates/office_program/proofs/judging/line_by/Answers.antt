use Rattle.office_check.specs.Verdicts.{IsVerdictOn}
use Rattle.office_program.proofs.SourceFacts.{own_reader, some_text}
use Rattle.office_program.proofs.judging.line_by.Goals as goal

-- the verdict on a text of the reader
pub returns-clause-ok : goal.returns-clause-ok
returns-clause-ok g c =
    let left = g.Q.Read.remaining c.args.reader.now in
    let read = some_text _ left (own_reader left)
    (λ text. IsVerdictOn c.args.judge.now.0 c.args.judge.now.1 text c.in_ok-verdict.verdict)
    c.in_ok-verdict.ensures.judged c.in_ok-verdict.ensures.some_judged in
    record {
      solution = read.0;
      of = read.1;
      verdict = c.in_ok-verdict.verdict;
      judged = read.2;
      text = c.in_ok-line.ensures;
      breach = c.has_breach.ensures;
    }
