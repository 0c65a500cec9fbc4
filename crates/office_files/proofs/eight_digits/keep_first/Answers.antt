use Rattle.core.proofs.dec2flt.Eight.{bytes_up}
use Rattle.office_files.proofs.eight_digits.keep_first.Goals as goal

pub returns : goal.returns
returns c = bytes_up c.args.word c.args.count c.requires
