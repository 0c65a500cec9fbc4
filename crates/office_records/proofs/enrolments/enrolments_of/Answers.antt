use Rattle.std.proofs.Common.{length, take, get_or, sym, subst, arith}
use Rattle.std.proofs.lemmas.List.{take_all, take_more}
use Rattle.office_tables.specs.declared.tables.enrol.EnrolRow.{EnrolRow}
use Rattle.office_records.specs.Found.{AreEnrolRows}
use Rattle.office_records.proofs.EnrolRowLemmas.{AreTaken, row_new, rows_taken, taken_more}
use Rattle.std.proofs.lemmas.Result.{err_from_is_err_and}
use Rattle.office_records.proofs.enrolments.enrolments_of.Goals as goal

-- a row that is no new pair
pub returns-in_err-enrol-clause-none : goal.returns-in_err-enrol-clause-none
returns-in_err-enrol-clause-none c =
    let I = c.args.instance.now in
    let rows = c.args.rows.now in
    let p = err_from_is_err_and c.from_residual.result c.from_residual.ensures.1 in
    rw (p.1, p.2) (λ bad E are. c.in_err-enrol.ensures.refused bad
    (row_new I rows E are c.loop-row.row-index _ c.loop-row.enrolments c.loop-row-test.true
    c.loop-row.invariant))

-- one more row
pub loop-row-preserved : goal.loop-row-preserved
loop-row-preserved c =
    let I = c.args.instance.now in
    let rows = c.args.rows.now in
    let i = c.loop-row.row-index in
    let none : EnrolRow = record { student = 0; exam = 0 } in
    subst (λ l. AreTaken (length I.exams) l c.enrol.new.enrolments)
    (sym (take_more rows i none c.loop-row-test.true))
    (taken_more (length I.exams) (take i rows) c.loop-row.enrolments c.enrol.new.enrolments
    (get_or rows i none) c.loop-row.invariant c.in_ok-enrol.ensures.new c.in_ok-enrol.ensures.adds
    c.in_ok-enrol.ensures.kept)

-- all rows are read
pub returns-clause-are : goal.returns-clause-are
returns-clause-are c =
    let I = c.args.instance.now in
    let rows = c.args.rows.now in
    let E = c.loop-row.enrolments in
    subst (λ l. AreEnrolRows I l E) (take_all c.loop-row.row-index rows (omega arith))
    (rows_taken I (take c.loop-row.row-index rows) E c.loop-row.invariant)
