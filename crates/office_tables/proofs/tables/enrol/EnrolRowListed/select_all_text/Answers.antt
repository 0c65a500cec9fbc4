use Rattle.office_tables.proofs.ListTexts.{enrol_lists}
use Rattle.office_tables.proofs.tables.enrol.EnrolRowListed.select_all_text.Goals as goal

pub returns : goal.returns
returns c version = enrol_lists version
