use Rattle.std.proofs.Common.{◌≡◌, true, false, rules}
use Rattle.office_tables.specs.declared.tables.enrol.EnrolRow.{EnrolRow}
use Rattle.office_store.proofs.BatchPuttingLemmas.{line_comes, line_goes}
use Rattle.office_store.proofs.StepLemmas.{changes_as}
use Rattle.office_store.proofs.new_batch.LineWriteAlteration.apply.Goals as goal

pub returns-then-self-clause-makes : goal.returns-then-self-clause-makes
returns-then-self-clause-makes g c =
    let change = c.args.self.now.change in
    let add : change.add ≡ true = search rules in
    let who : c.get-student.result ≡ change.student = search rules in
    let what : c.get-exam.result ≡ change.exam = search rules in
    let row : EnrolRow = record { student = c.get-student.result; exam = c.get-exam.result } in
    changes_as g.S.Store c.args.tx.now.conn.now c.apply.new.tx.conn.now c.apply.result
    (line_comes change row add (λ i. record { student = who i; exam = what i })) c.apply.ensures.makes

pub returns-else-self-clause-makes : goal.returns-else-self-clause-makes
returns-else-self-clause-makes g c =
    let change = c.args.self.now.change in
    let drop : change.add ≡ false = search rules in
    let who : c.get-student.result ≡ change.student = search rules in
    let what : c.get-exam.result ≡ change.exam = search rules in
    changes_as g.S.Store c.args.tx.now.conn.now c.apply-else-self.new.tx.conn.now
    c.apply-else-self.result
    (line_goes change c.get-student.result c.get-exam.result drop who what) c.apply-else-self.ensures.makes
