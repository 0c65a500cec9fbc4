use Rattle.std.proofs.Common.{arith, rules}
use Rattle.std.proofs.lemmas.List.{take_rest}
use Rattle.office_files.proofs.FieldLemmas.{parts_at}
use Rattle.office_files.proofs.fields.cut.Goals as goal

pub returns-then-byte-mark-clause-parts : goal.returns-then-byte-mark-clause-parts
returns-then-byte-mark-clause-parts c =
    rw take_rest
    (parts_at c.args.mark c.args.text.now c.loop-i.i (omega arith)
    (search rules) c.loop-i.invariant)
