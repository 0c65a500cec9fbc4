use Rattle.std.proofs.Common.{arith}
use Rattle.office_model.specs.BatchLines.{no_counts}
use Rattle.office_enrolment.proofs.LineLemmas.{accepted, all_counted}
use Rattle.office_enrolment.proofs.TextLemmas.{few_changes}
use Rattle.office_enrolment.proofs.laws.lines_are_counted.Goals as goal

pub returns : goal.returns
returns c = record {
  few = λ b changes is.
      let text = c.batch_readings_agree.ensures.spelled b changes is in
      omega (arith, few_changes b changes text, text.within);
  counted = λ changes E done is.
      omega (arith, all_counted changes E no_counts done (accepted changes E done is).1);
}
