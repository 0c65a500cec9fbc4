use Rattle.office_batches.specs.BatchText.{batch_in}
use Rattle.office_enrolment.proofs.OfficeLemmas.{office_after}
use Rattle.office_enrolment.proofs.TextLemmas.{have_numbers}
use Rattle.office_enrolment.proofs.laws.batch_leaves_an_office.Goals as goal

pub returns : goal.returns
returns c number bytes old new counts small was gives =
    office_after number bytes (batch_in bytes) old new counts small
    (λ changes read.
    let text = c.batch_readings_agree.ensures.spelled bytes changes read in
    (text.within, have_numbers text.others changes text.say)) was gives
