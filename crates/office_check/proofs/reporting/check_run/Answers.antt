use Rattle.std.proofs.lemmas.Result.{IfOk-weaker}
use Rattle.office_check.proofs.CheckFacts.{one_of_two}
use Rattle.office_check.proofs.reporting.check_run.Goals as goal

-- the status is that of the report
pub returns-clause-status : goal.returns-clause-status
returns-clause-status g c =
    IfOk-weaker c.task_run.result _ _
    (λ status some. one_of_two _ status some.texts.holds.status) c.task_run.ensures.some
