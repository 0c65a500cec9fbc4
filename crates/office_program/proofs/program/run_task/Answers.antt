use Rattle.std.proofs.Common.{refl}
use Rattle.office_program.specs.Runs.{fails}
use Rattle.office_program.proofs.program.run_task.Goals as goal

-- a task that failed, and then the line of its fault
pub returns-in-Err : goal.returns-in-Err
returns-in-Err g c = fails (record {
  shown = c.in-Err.fault;
  before = _;
  fails = c.in-Err.ensures.fails;
  complains = record {
    status = c.complain-ending.ensures.status;
    line = c.complain-ending.ensures.err_line;
    rest = refl;
  };
})

-- the line about the cause of its fault may be written
pub announce_cause-requires : goal.announce_cause-requires
announce_cause-requires g c = c.requires.causes c.in-Err.fault c.in-Err.ensures.fails.of
