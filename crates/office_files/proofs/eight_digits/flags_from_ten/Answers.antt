use Rattle.core.proofs.slice.Flagged.{flags_from_ten}
use Rattle.office_files.proofs.eight_digits.flags_from_ten.Goals as goal

pub returns : goal.returns
returns c = flags_from_ten c.args.word
