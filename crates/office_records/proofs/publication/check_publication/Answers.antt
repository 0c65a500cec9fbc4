use Rattle.std.proofs.Common.{◌∙◌}
use Rattle.office_records.proofs.PublicationLemmas.{enrol_rows_are, enrolled, is_publication, never_refused}
use Rattle.office_records.proofs.ResultLemmas.{passed_on}
use Rattle.office_records.proofs.publication.check_publication.Goals as goal

pub returns-in_err-enrolments-clause-none : goal.returns-in_err-enrolments-clause-none
returns-in_err-enrolments-clause-none c =
    let I = c.args.instance.now in
    let rows = c.args.rows.now in
    let T = c.args.timetable.now in
    passed_on c.from_residual-in_err-enrolments.result c.in_err-enrolments.field-0.0 _
    c.from_residual-in_err-enrolments.ensures.1
    (λ bad known. c.in_err-enrolments.ensures.none bad (enrolled I rows T c.requires.rows)
    (enrol_rows_are I rows T c.requires.rows known.enrolled c.deref.result.now
    (c.deref.ensures.value ∙ c.in_ok-pairs.ensures)))

pub returns-in-Ok-clause-is : goal.returns-in-Ok-clause-is
returns-in-Ok-clause-is c =
    is_publication c.args.instance.now c.args.rows.now c.args.timetable.now c.requires.rows
    c.deref.result.now (c.deref.ensures.value ∙ c.in_ok-pairs.ensures)
    c.in_ok-enrolments.enrolments c.in_ok-enrolments.ensures.are c.requires.seated
    c.numbers_identify.ensures c.in-Ok.ensures.ok

pub returns-clause-none : goal.returns-clause-none
returns-clause-none c _ =
    never_refused c.args.instance.now c.args.rows.now c.args.timetable.now c.requires.rows
    c.deref.result.now (c.deref.ensures.value ∙ c.in_ok-pairs.ensures)
    c.in_ok-enrolments.enrolments c.in_ok-enrolments.ensures.are c.in-Err-Broken.field-0
    (λ memory. let broken = c.in-Err-Broken.field-0-is in absurd cc)
    c.in-Err-Broken.ensures.refused
