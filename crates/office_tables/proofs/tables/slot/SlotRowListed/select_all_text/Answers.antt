use Rattle.office_tables.proofs.ListTexts.{slot_lists}
use Rattle.office_tables.proofs.tables.slot.SlotRowListed.select_all_text.Goals as goal

pub returns : goal.returns
returns c version = slot_lists version
