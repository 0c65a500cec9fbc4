use Rattle.office_files.proofs.LimitLaws.{enrolments_within, one_number, session_within}
use Rattle.office_files.proofs.laws.spelled_in_limits.Goals as goal

pub returns-clause-session : goal.returns-clause-session
returns-clause-session c b I E text = session_within b I E text

pub returns-clause-enrolments : goal.returns-clause-enrolments
returns-clause-enrolments c b I E text = enrolments_within b I E text

pub returns-clause-exams : goal.returns-clause-exams
returns-clause-exams c b I E text = one_number b I E text
