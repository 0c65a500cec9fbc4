use Rattle.std.proofs.Common.{codes, refl}
use Rattle.sqlite.specs.Listing.{understood}
use Rattle.sqlite_tied.specs.Compute.{everything}
use Rattle.office_tables.specs.Tables.SharePart.{share_part_table}
use Rattle.office_tables.proofs.DeleteLemmas.{IsDelete, rows_cleared}
use Rattle.office_tables.proofs.Rows.{part_shares}
use Rattle.office_tables.proofs.tables.share_part.DeletePartSharesAlteration.apply.Goals as goal

means : IsDelete 8 share_part_table 0 (codes "DELETE FROM share_part")
unfolding understood everything
means = record { is = refl; plain = (refl, refl) }

pub returns-clause-makes : goal.returns-clause-makes
returns-clause-makes g c clean inside =
    rows_cleared part_shares.is _ means _ _ (λ _. refl) (λ _. refl) _ _ c.run.result
    (c.run.ensures.ran clean inside)
