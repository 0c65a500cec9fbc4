use Rattle.office_enrolment.proofs.OfficeLemmas.{enrolled_after}
use Rattle.office_enrolment.proofs.TextLemmas.{have_numbers}
use Rattle.office_enrolment.proofs.laws.enrolled_again.Goals as goal

pub returns : goal.returns
returns c I b changes E done was read is =
    let text = c.batch_readings_agree.ensures.spelled b changes read in
    enrolled_after I changes E done (have_numbers text.others changes text.say) was is
