use Rattle.office_records.proofs.ShareRowLemmas.{no_share_at}
use Rattle.office_records.proofs.student_shares.personal_shares.Goals as goal

pub returns-in_default-clause-none : goal.returns-in_default-clause-none
returns-in_default-clause-none c is shares all same =
    no_share_at c.args.rows.now shares all same c.rows.row-index _ c.rows-test.true
    c.in_default.ensures.none
