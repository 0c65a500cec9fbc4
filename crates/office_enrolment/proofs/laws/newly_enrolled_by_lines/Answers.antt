use Rattle.office_enrolment.proofs.OfficeLemmas.{as_office}
use Rattle.office_enrolment.proofs.laws.newly_enrolled_by_lines.Goals as goal

pub returns : goal.returns
returns c number bytes changes r are = as_office number bytes changes r are.exams
