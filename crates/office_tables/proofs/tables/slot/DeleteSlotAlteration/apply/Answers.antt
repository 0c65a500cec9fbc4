use Rattle.std.proofs.Common.{[], ◌∷◌, arith, codes, refl}
use Rattle.sqlite.specs.Listing.{understood}
use Rattle.sqlite_tied.specs.Compute.{everything}
use Rattle.office_tables.proofs.DeleteLemmas.{rows_deleted}
use Rattle.office_tables.proofs.Rows.{slots}
use Rattle.office_tables.proofs.tables.slot.DeleteSlotAlteration.apply.Goals as goal

pub returns-clause-makes : goal.returns-clause-makes
unfolding understood everything
returns-clause-makes g c clean inside =
    let it = c.args.self.now in
    rows_deleted slots (λ x. x.draft ∷ x.exam ∷ []) (λ _. (_, refl)) (it.draft ∷ it.exam ∷ []) (λ _. omega arith)
    (codes "DELETE FROM slot WHERE draft = ?1 AND exam = ?2") (record { is = refl; plain = (refl, refl) })
    (λ t. t.slot) _ (λ _. refl) (λ _. refl) _ _ c.run.result
    (rw (c.params-to_sql.ensures, c.params-to_sql-2.ensures) at (c.run.ensures.ran clean inside))
