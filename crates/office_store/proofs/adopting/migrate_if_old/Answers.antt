use Rattle.std.proofs.Common.{◌≡◌, ◌∷◌, ap, rules, subst, sym, []}
use Rattle.office_tables.specs.Tables.{tables_of}
use Rattle.office_tables.specs.declared.version.Version.TheVariants.{One}
use Rattle.office_tables.proofs.TurnLemmas.{ran_weaker}
use Rattle.office_store.specs.Transactions.{Migrated, RowsMigrated}
use Rattle.office_store.proofs.adopting.migrate_if_old.Goals as goal

pub returns-in-One : goal.returns-in-One
returns-in-One g c =
    let found = c.args.found.now in
    let old = c.args.conn.now in
    let new = c.migrate_tables.new.conn in
    let one : found.version ≡ One = search rules in
    subst (λ v. Migrated v g.S.Store found old new c.migrate_tables.result) (sym one)
    (ran_weaker g.S.Store old new c.migrate_tables.result _ (RowsMigrated found)
    (λ a b migrated batches. migrated (tables_of found batches)
    (ap (λ text. record { published = found.meta.published; instance = text } ∷ [])
    (sym c.deref.ensures.value)))
    c.migrate_tables.ensures)
