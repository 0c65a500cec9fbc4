use Rattle.std.proofs.Common.{IfOk, subst}
use Rattle.clap.proofs.FaultLemmas.{failed_up}
use Rattle.office_program.specs.Program.{IsTaskOf}
use Rattle.office_program.proofs.WordFacts.{comes_first, found_fails}
use Rattle.office_program.proofs.words.read_words.Goals as goal

-- the task that clap found is the task of the words
pub returns-clause-task : goal.returns-clause-task
returns-clause-task c =
    subst (λ found. IfOk c.task_of.result (IsTaskOf found)) c.in_ok-found.ensures.found
    c.task_of.ensures.task

-- and its faults are those of the words
pub returns-clause-kinds : goal.returns-clause-kinds
returns-clause-kinds c =
    found_fails _ _ _ c.task_of.result c.in_ok-found.ensures.kinds c.in_ok-found.ensures.found
    c.task_of.ensures.task c.task_of.ensures.err

-- a mistake that clap finds is a mistake in the words
pub returns-in_err-found-clause-kinds : goal.returns-in_err-found-clause-kinds
returns-in_err-found-clause-kinds c =
    failed_up c.from_residual.result c.in_err-found.field-0.0 _ _ c.from_residual.ensures.1
    (comes_first _ _ c.in_err-found.field-0.0 c.in_err-found.ensures.kinds)
