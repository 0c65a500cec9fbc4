use Rattle.std.proofs.Common.{[], ◌∷◌, arith, codes, refl}
use Rattle.sqlite.specs.Listing.{understood}
use Rattle.sqlite_tied.specs.Compute.{everything}
use Rattle.office_tables.proofs.DeleteLemmas.{rows_deleted}
use Rattle.office_tables.proofs.Rows.{placements}
use Rattle.office_tables.proofs.tables.placed.DeletePlacementAlteration.apply.Goals as goal

pub returns-clause-makes : goal.returns-clause-makes
unfolding understood everything
returns-clause-makes g c clean inside =
    let it = c.args.self.now in
    rows_deleted placements (λ x. x.exam ∷ []) (λ _. (_, refl)) (it.exam ∷ []) (λ _. omega arith)
    (codes "DELETE FROM placed WHERE exam = ?1") (record { is = refl; plain = (refl, refl) })
    (λ t. t.placed) _ (λ _. refl) (λ _. refl) _ _ c.run.result
    (rw c.params-to_sql.ensures at (c.run.ensures.ran clean inside))
