use Rattle.std.proofs.Common.{◌≡◌, IsTrue, length}
use Rattle.std.specs.Prelude.{All}
use Rattle.sqlite.specs.Held.{state}
use Rattle.sqlite.specs.State.{HasCleanDisk}
use Rattle.office_tables.specs.Alterations.{after_all}
use Rattle.office_tables.specs.Tables.ShareStudent.{AreStudentAmounts}
use Rattle.office_tables.specs.Tables.{with_student_share}
use Rattle.office_tables.specs.Steps.{IsUncommitted}
use Rattle.office_tables.specs.declared.tables.share_student.InsertStudentShare.{InsertStudentShare}
use Rattle.office_tables.proofs.InsertLemmas.{Continues}
use Rattle.office_tables.proofs.tables.share_student.InsertStudentSharesAlteration.apply.Given as goal

abbrev pub invariant-chunks : goal.invariant-chunks
invariant-chunks g l =
    let old = state g.S.Store l.fn.tx.conn.now in
    let now = state g.S.Store l.tx.conn.now in
    record {
      same : l.tx.conn.ghost_name ≡ l.fn.tx.conn.ghost_name;
      makes : HasCleanDisk now → IsTrue l.fn.tx.conn.now.in_transaction
          → Continues (after_all (λ (it : InsertStudentShare). with_student_share it.row))
          l.fn.self.rows.now l.left old now;
      within : IsUncommitted old now;
      fits : All (λ (it : InsertStudentShare). AreStudentAmounts it.row) l.left;
    }

abbrev pub decreases-chunks : goal.decreases-chunks
decreases-chunks g l = length l.left
