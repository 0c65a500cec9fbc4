use Rattle.office_tables.proofs.ListTexts.{owner_lists}
use Rattle.office_tables.proofs.tables.owner.OwnerRowListed.select_all_text.Goals as goal

pub returns : goal.returns
returns c version = owner_lists version
