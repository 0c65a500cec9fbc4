use Rattle.office_tables.proofs.Inside.{changes_by_two}
use Rattle.office_tables.proofs.ShareLemmas.{added}
use Rattle.office_tables.proofs.tables.share_student.InsertStudentShareAlteration.apply.Goals as goal

pub returns-clause-makes : goal.returns-clause-makes
returns-clause-makes g c =
    changes_by_two _ _ _ _ _ _ (added _ _ _ c.args.self.now.row) c.run_with-2.ensures.within
    (rw c.student_numbers.ensures at c.in_ok-run_with.ensures.ran)
    (rw c.night_numbers.ensures at c.run_with-2.ensures.ran)
