use Rattle.office_files.proofs.EightLanes.{eight_is}
use Rattle.office_files.proofs.eight_digits.value_of_eight.Goals as goal

pub returns : goal.returns
returns c ds eight e = eight_is ds c.args.word eight e
