use Rattle.exam_lists.proofs.Parts.{not_empty}
use Rattle.office_records.proofs.FoundLemmas.{no_shares}
use Rattle.office_records.proofs.published.check_no_shares.Goals as goal
use Rattle.office_records.proofs.published.check_no_shares.Goals.{else-is_empty-via-then-is_empty+else-is_empty-2, else-is_empty-via-else-is_empty}

pub returns-else-is_empty-clause-none : goal.returns-else-is_empty-clause-none
returns-else-is_empty-clause-none c I are =
    let students = c.args.students.now in
    let parts = c.args.parts.now in
    let none = no_shares I students parts are in
    elim c.else-is_empty.branch [
      | else-is_empty-via-then-is_empty+else-is_empty-2 w ↦
          not_empty parts w.is_empty-then-is_empty.result w.is_empty-then-is_empty.ensures
          w.if-is_empty-2.false none.1
      | else-is_empty-via-else-is_empty w ↦
          not_empty students c.is_empty.result c.is_empty.ensures w.if-is_empty.false none.0
    ]
