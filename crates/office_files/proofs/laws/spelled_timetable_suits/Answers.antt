use Rattle.office_files.proofs.LimitLaws.{timetable_suits}
use Rattle.office_files.proofs.laws.spelled_timetable_suits.Goals as goal

pub returns : goal.returns
returns c b I T known text = timetable_suits b I T known text
