use Rattle.std.proofs.Common.{sym}
use Rattle.std.proofs.lemmas.List.{take_all}
use Rattle.office_messages.proofs.look.first.Goals as goal

pub returns-else-n-bytes-clause-front : goal.returns-else-n-bytes-clause-front
returns-else-n-bytes-clause-front c = sym (take_all c.args.n c.args.bytes.now c.if-n-bytes.false)
