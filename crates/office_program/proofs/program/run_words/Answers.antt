use Rattle.office_program.specs.Runs.{refuses, runs_command}
use Rattle.office_program.proofs.program.run_words.Goals as goal

-- the words are a command
pub returns-in-Ok : goal.returns-in-Ok
returns-in-Ok g c =
    runs_command c.in-Ok.task c.in-Ok.ensures.kinds c.in-Ok.ensures.task c.run_task.ensures

-- or none
pub returns-in-Err : goal.returns-in-Err
returns-in-Err g c = refuses c.in-Err.error c.in-Err.ensures.kinds c.refuse_words.ensures
