use Rattle.std.proofs.Common.{inl, inr}
use Rattle.office_model.specs.declared.fault.StoreFault.TheVariants.{BadSchema}
use Rattle.office_program.specs.declared.exporting.ExportFault.TheVariants.{Store}
use Rattle.office_program.proofs.DatabaseFacts.{others_kept}
use Rattle.office_program.proofs.exporting.export.Goals as goal

-- the database that was opened is given back
pub returns-in-Ok-export_run-clause-uses : goal.returns-in-Ok-export_run-clause-uses
returns-in-Ok-export_run-clause-uses g c = record {
  before = c.in-Ok.conn;
  after = c.in-Ok-export_run.conn;
  opened = c.in-Ok.ensures.opened;
  given_back = c.take_back.ensures.back;
  others = others_kept _ _ _ _ c.in-Ok.ensures.others c.take_back.ensures.others;
  holds = c.in-Ok-export_run.ensures.done;
}

-- nothing was written, unless the writer failed
pub returns-in-Err-export_run-clause-unwritten : goal.returns-in-Err-export_run-clause-unwritten
returns-in-Err-export_run-clause-unwritten g c = λ other.
    c.in-Err-export_run.ensures.unwritten
    (λ is. other (c.fault_of_export.ensures.write is))

pub returns-in-Err-export_run-clause-front : goal.returns-in-Err-export_run-clause-front
returns-in-Err-export_run-clause-front g c = λ is.
    c.in-Err-export_run.ensures.front (c.fault_of_export.ensures.only is)

-- and so it is if nothing is exported
pub returns-in-Err-export_run-clause-leaves : goal.returns-in-Err-export_run-clause-leaves
returns-in-Err-export_run-clause-leaves g c = inr (inr (record {
  before = c.in-Ok.conn;
  after = c.in-Err-export_run.conn;
  opened = c.in-Ok.ensures.opened;
  given_back = c.take_back-in-Err-export_run.ensures.back;
  others = others_kept _ _ _ _ c.in-Ok.ensures.others c.take_back-in-Err-export_run.ensures.others;
  holds = record {
    of = c.in-Err-export_run.fault;
    line = c.fault_of_export.ensures.line;
    refused = c.in-Err-export_run.ensures.refused;
    foreign = c.in-Err-export_run.ensures.foreign;
    stays = c.in-Err-export_run.ensures.stays;
    survives = c.in-Err-export_run.ensures.survives;
  };
}))

-- a database that can't be opened, or an empty file
pub returns-in-Err-clause-fault : goal.returns-in-Err-clause-fault
returns-in-Err-clause-fault g c = elim c.in-Err.ensures.failed [
  | inl unopened ↦ inl (unopened.of, unopened.line)
  | inr empty ↦ inr (Store BadSchema, empty.line)
]

pub returns-in-Err-clause-leaves : goal.returns-in-Err-clause-leaves
returns-in-Err-clause-leaves g c = elim c.in-Err.ensures.failed [
  | inl unopened ↦ inl unopened
  | inr empty ↦ inr (inl empty)
]
