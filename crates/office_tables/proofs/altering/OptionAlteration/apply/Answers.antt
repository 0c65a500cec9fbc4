use Rattle.office_tables.proofs.altering.OptionAlteration.apply.Goals as goal

pub returns-in-Some-clause-makes : goal.returns-in-Some-clause-makes
returns-in-Some-clause-makes g c = rw c.in-Some.is c.apply.ensures.makes
