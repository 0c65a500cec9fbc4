use Rattle.std.proofs.Common.{inl, inr}
use Rattle.office_program.proofs.DatabaseFacts.{others_kept}
use Rattle.office_program.proofs.loading.load_text.Goals as goal

-- nothing was written, unless the writer failed
pub returns-in-Err-load_run-clause-unwritten : goal.returns-in-Err-load_run-clause-unwritten
returns-in-Err-load_run-clause-unwritten g c = λ other.
    c.in-Err-load_run.ensures.unwritten (λ is. other (c.fault_of_load.ensures.write is))

pub returns-in-Err-load_run-clause-front : goal.returns-in-Err-load_run-clause-front
returns-in-Err-load_run-clause-front g c = λ is.
    c.in-Err-load_run.ensures.front (c.fault_of_load.ensures.only is)

-- the text is loaded into the database that was opened, which is given back
pub returns-in-Ok-load_run-clause-loaded : goal.returns-in-Ok-load_run-clause-loaded
returns-in-Ok-load_run-clause-loaded g c = (
  c.in-Ok-load_run.ensures.printed,
  record {
    before = c.in-Ok.conn;
    after = c.in-Ok-load_run.conn;
    opened = c.in-Ok.ensures.opened;
    given_back = c.take_back.ensures.back;
    others = others_kept _ _ _ _ c.in-Ok.ensures.others c.take_back.ensures.others;
    holds = c.in-Ok-load_run.ensures.done;
  },
)

-- and so it is if the text is not loaded
pub returns-in-Err-load_run-clause-leaves : goal.returns-in-Err-load_run-clause-leaves
returns-in-Err-load_run-clause-leaves g c = inr (record {
  before = c.in-Ok.conn;
  after = c.in-Err-load_run.conn;
  opened = c.in-Ok.ensures.opened;
  given_back = c.take_back-in-Err-load_run.ensures.back;
  others = others_kept _ _ _ _ c.in-Ok.ensures.others c.take_back-in-Err-load_run.ensures.others;
  holds = record {
    of = c.in-Err-load_run.fault;
    line = c.fault_of_load.ensures.line;
    refused = c.in-Err-load_run.ensures.refused;
    foreign = c.in-Err-load_run.ensures.foreign;
    stays = c.in-Err-load_run.ensures.stays;
    survives = c.in-Err-load_run.ensures.survives;
  };
})

-- a database that can't be opened
pub returns-in-Err-clause-fault : goal.returns-in-Err-clause-fault
returns-in-Err-clause-fault g c = inl (c.in-Err.ensures.failed.of, c.in-Err.ensures.failed.line)

pub returns-in-Err-clause-leaves : goal.returns-in-Err-clause-leaves
returns-in-Err-clause-leaves g c = inl c.in-Err.ensures.failed
