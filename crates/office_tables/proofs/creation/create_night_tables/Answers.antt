use Rattle.std.proofs.Common.{[], ◌∷◌, refl, subst}
use Rattle.sqlite.specs.Listing.{understood}
use Rattle.sqlite_tied.specs.Compute.{everything}
use Rattle.office_tables.specs.Tables.Draft.{night_draft_table}
use Rattle.office_tables.specs.Tables.ShareStudent.{night_share_table}
use Rattle.office_tables.specs.Tables.{schema_before}
use Rattle.office_tables.specs.Schema.{HasRows}
use Rattle.office_tables.specs.Steps.{StepEstablishes}
use Rattle.office_tables.proofs.Creates.{whole}
use Rattle.office_tables.proofs.creation.create_night_tables.Goals as goal

pub returns-clause-makes : goal.returns-clause-makes
unfolding understood everything
returns-clause-makes g c trees first second =
    subst (λ s. StepEstablishes g.S.Store (HasRows schema_before trees) (HasRows s trees)
    c.args.tx.now.conn.now c.create.new.tx.conn.now c.create.result) whole
    (c.create.ensures.makes schema_before (night_draft_table ∷ night_share_table ∷ []) trees (
      record { command = refl; whole = refl; defined = refl; plain = (refl, refl); uncounted = refl },
      first,
      (record { command = refl; whole = refl; defined = refl; plain = (refl, refl); uncounted = refl }, second, tt),
    ))
