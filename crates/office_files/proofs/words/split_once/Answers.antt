use Rattle.std.proofs.Common.{arith, rules, sym}
use Rattle.std.proofs.lemmas.List.{take_rest}
use Rattle.office_files.proofs.SplitLemmas.{split_once_at}
use Rattle.office_files.proofs.words.split_once.Goals as goal

pub returns-then-byte-mark : goal.returns-then-byte-mark
returns-then-byte-mark c =
    rw take_rest
    (sym (split_once_at c.args.mark c.args.text.now c.loop-i.i (omega arith)
    (search rules) c.loop-i.invariant))
