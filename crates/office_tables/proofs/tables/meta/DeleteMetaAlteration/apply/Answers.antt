use Rattle.std.proofs.Common.{refl}
use Rattle.office_tables.proofs.DeleteLemmas.{rows_cleared}
use Rattle.office_tables.proofs.MetaLemmas.{delete_means}
use Rattle.office_tables.proofs.Rows.{meta_is}
use Rattle.office_tables.proofs.tables.meta.DeleteMetaAlteration.apply.Goals as goal

pub returns-clause-makes : goal.returns-clause-makes
returns-clause-makes g c clean inside =
    rows_cleared meta_is _ delete_means _ _ (λ _. refl) (λ _. refl) _ _ c.run.result
    (c.run.ensures.ran clean inside)
