use Rattle.office_tables.proofs.ListTexts.{share_student_lists, night_share_lists}
use Rattle.office_tables.proofs.Splitting.{share_student_splits}
use Rattle.office_tables.proofs.tables.share_student.adopt_student_shares.Goals as goal

pub returns : goal.returns
returns g c =
    c.adopt_with_nights.ensures 11 16 (share_student_lists c.args.version) night_share_lists share_student_splits
