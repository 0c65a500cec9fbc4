use Rattle.std.proofs.lemmas.Result.{err_from_is_err_and}
use Rattle.office_check.proofs.CheckFacts.{of_both, of_inputs, of_some, refused_late}
use Rattle.office_check.proofs.checking.task_run.Goals as goal

pub returns-clause-from : goal.returns-clause-from
returns-clause-from g c =
    of_inputs _ _ _ _ _ _ c.in_ok-instance.ensures.from c.in_ok-answer.ensures.written

pub returns-clause-some : goal.returns-clause-some
returns-clause-some g c =
    of_some _ _ _
    (of_inputs _ _ _ _ _ _ c.in_ok-instance.ensures.from c.in_ok-answer.ensures.written)

pub returns-clause-done : goal.returns-clause-done
returns-clause-done g c =
    of_both _ _ _
    (of_inputs _ _ _ _ _ _ c.in_ok-instance.ensures.from c.in_ok-answer.ensures.written)

pub returns-in_err-answer-clause-refused : goal.returns-in_err-answer-clause-refused
returns-in_err-answer-clause-refused g c =
    let fault = err_from_is_err_and c.from_residual-in_err-answer.result
    c.from_residual-in_err-answer.ensures.1 in
    rw (fault.1, fault.2)
    (refused_late _ _ _ _ _ _ c.in_ok-instance.ensures.reading c.in_err-answer.ensures.faults)

-- a write failed
pub returns-in_err-answer-clause-front : goal.returns-in_err-answer-clause-front
returns-in_err-answer-clause-front g c =
    let fault = err_from_is_err_and c.from_residual-in_err-answer.result
    c.from_residual-in_err-answer.ensures.1 in
    rw (fault.1, fault.2)
    (λ is. of_inputs _ _ _ _ _ _ c.in_ok-instance.ensures.from (c.in_err-answer.ensures.front is))
