use Rattle.office_tables.proofs.ListTexts.{share_part_lists}
use Rattle.office_tables.proofs.tables.share_part.PartShareRowListed.select_all_text.Goals as goal

pub returns : goal.returns
returns c version = share_part_lists version
