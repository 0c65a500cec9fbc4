use Rattle.office_files.proofs.NameLaws.{sits_as_named}
use Rattle.office_files.proofs.laws.sits_as_named.Goals as goal

pub returns : goal.returns
returns c b I E s e line spelled lt at = sits_as_named b I E s e line spelled lt at
