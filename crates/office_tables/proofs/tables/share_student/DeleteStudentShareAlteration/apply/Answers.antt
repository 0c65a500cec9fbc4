use Rattle.office_tables.proofs.Inside.{changes_by_two}
use Rattle.office_tables.proofs.ShareLemmas.{gone}
use Rattle.office_tables.proofs.tables.share_student.DeleteStudentShareAlteration.apply.Goals as goal

pub returns-clause-makes : goal.returns-clause-makes
returns-clause-makes g c =
    changes_by_two _ _ _ _ _ _ (gone _ _ _ c.args.self.now.student) c.run-2.ensures.within
    (rw c.params-to_sql.ensures at c.in_ok-run.ensures.ran)
    (rw c.params-to_sql-2.ensures at c.run-2.ensures.ran)
