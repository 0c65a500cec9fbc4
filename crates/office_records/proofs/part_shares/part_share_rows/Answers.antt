use Rattle.std.proofs.Common.{sym, subst}
use Rattle.std.specs.Prelude.{All}
use Rattle.office_tables.specs.Tables.SharePart.{ArePartAmounts}
use Rattle.office_records.proofs.PartRowLemmas.{parts_small}
use Rattle.office_records.proofs.part_shares.part_share_rows.Goals as goal

pub returns-clause-amounts : goal.returns-clause-amounts
returns-clause-amounts c small =
    subst (All ArePartAmounts) (sym c.in_ok-rows.ensures) (parts_small c.args.shares.now small)
