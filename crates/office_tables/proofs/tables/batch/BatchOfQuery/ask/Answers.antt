use Rattle.office_tables.specs.declared.version.Version.TheVariants.{Two}
use Rattle.office_tables.proofs.tables.batch.BatchOfQuery.ask.Goals as goal

pub returns-clause-leaves : goal.returns-clause-leaves
returns-clause-leaves g c = c.batch_of.ensures.leaves Two
