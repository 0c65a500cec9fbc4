use Rattle.std.proofs.Common.{◌∙◌}
use Rattle.std.proofs.lemmas.Result.{IfOk-weaker}
use Rattle.exam_changes.proofs.SearchLemmas.{new_as}
use Rattle.exam_changes.proofs.breach_changes.new_breaches.Goals as goal

pub returns : goal.returns
returns c =
    IfOk-weaker c.not_listed.result _ _
    (λ found is test says. is ∙ new_as c.args.before.now c.args.after.now test says)
    c.not_listed.ensures
