use Rattle.office_tables.proofs.ListTexts.{placed_lists}
use Rattle.office_tables.proofs.tables.placed.PlacedRowListed.select_all_text.Goals as goal

pub returns : goal.returns
returns c version = placed_lists version
