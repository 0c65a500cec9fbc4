use Rattle.std.proofs.Common.{◌∙◌, ap, sym}
use Rattle.sqlite.specs.Effect.{Database}
use Rattle.office_store.proofs.laws.awake_store_leaves_its_tables.Goals as goal

pub returns : goal.returns
returns g c conn found all_committed may =
    g.met.S.Store.settled conn.store found all_committed.0 may
    ∙ sym (ap (λ (db : Database). db.trees) all_committed.1)
