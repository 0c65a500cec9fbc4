use Rattle.std.proofs.Common.{sym, subst}
use Rattle.office_records.specs.PartShares.{HasFewParts}
use Rattle.office_records.proofs.SharesLemmas.{few_parts}
use Rattle.office_records.proofs.shares.check_shares.Goals as goal

pub part_share_rows-requires : goal.part_share_rows-requires
part_share_rows-requires c =
    subst HasFewParts (sym c.in_ok-own.ensures.shares)
    (few_parts c.args.instance.now c.args.rows.now c.args.timetable.now c.lemma_limits.ensures)
