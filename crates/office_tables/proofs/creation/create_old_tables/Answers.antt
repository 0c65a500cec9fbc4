use Rattle.std.proofs.Common.{[], refl, subst}
use Rattle.sqlite.specs.Listing.{understood}
use Rattle.sqlite_tied.specs.Compute.{everything}
use Rattle.office_tables.specs.Tables.{schema_before}
use Rattle.office_tables.specs.Schema.{IsBlank, no_schema}
use Rattle.office_tables.specs.Steps.{StepEstablishes}
use Rattle.office_tables.proofs.Creates.{ten}
use Rattle.office_tables.proofs.creation.create_old_tables.Goals as goal

pub returns-clause-makes : goal.returns-clause-makes
unfolding understood everything
returns-clause-makes g c =
    subst (λ s. StepEstablishes g.S.Store (IsBlank no_schema) (IsBlank s) c.args.tx.now.conn.now
    c.create.new.tx.conn.now c.create.result) ten
    (c.create.ensures.makes no_schema schema_before.tables (λ _. []) (
      record { command = refl; whole = refl; defined = refl; plain = (refl, refl); uncounted = refl },
      refl,
      (
        record { command = refl; whole = refl; defined = refl; plain = (refl, refl); uncounted = refl },
        refl,
        (
          record { command = refl; whole = refl; defined = refl; plain = (refl, refl); uncounted = refl },
          refl,
          (
            record { command = refl; whole = refl; defined = refl; plain = (refl, refl); uncounted = refl },
            refl,
            (
              record { command = refl; whole = refl; defined = refl; plain = (refl, refl); uncounted = refl },
              refl,
              (
                record { command = refl; whole = refl; defined = refl; plain = (refl, refl); uncounted = refl },
                refl,
                (
                  record { command = refl; whole = refl; defined = refl; plain = (refl, refl); uncounted = refl },
                  refl,
                  (
                    record { command = refl; whole = refl; defined = refl; plain = (refl, refl); uncounted = refl },
                    refl,
                    (
                      record { command = refl; whole = refl; defined = refl; plain = (refl, refl); uncounted = refl },
                      refl,
                      (
                        record { command = refl; whole = refl; defined = refl; plain = (refl, refl); uncounted = refl },
                        refl,
                        tt,
                      ),
                    ),
                  ),
                ),
              ),
            ),
          ),
        ),
      ),
    ))
