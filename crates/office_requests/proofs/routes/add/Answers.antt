use Rattle.std.proofs.Common.{sym}
use Rattle.office_requests.proofs.AddLemmas.{added}
use Rattle.office_requests.proofs.routes.add.Goals as goal

pub returns-then-is_ok : goal.returns-then-is_ok
returns-then-is_ok c =
    added c.args.route.now c.args.page _ _ _ c.insert.ensures (sym c.if-is_ok.ensures.value)
