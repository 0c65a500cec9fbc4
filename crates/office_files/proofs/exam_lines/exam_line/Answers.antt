use Rattle.std.proofs.Common.{◌≢◌}
use Rattle.exam_model.specs.declared.fault.ModelFault.TheVariants as model
use Rattle.office_files.specs.Fields.{fields_of}
use Rattle.office_files.proofs.ExamLineSteps.{read_of, line_past, line_entered, line_faulty}
use Rattle.office_files.proofs.ExamLinePairs.{too_many}
use Rattle.office_files.proofs.exam_lines.exam_line.Goals as goal

-- all students are added, and no field is faulty
pub returns-in-None-clause-ok : goal.returns-in-None-clause-ok
returns-in-None-clause-ok c =
    let fields = fields_of c.args.line.now in
    let minutes = c.in_ok-minutes.minutes in
    let sitters = c.deref.result.now in
    let fault = c.in-Ok.gathered.fault in
    let read =
    read_of fields c.new-fields.result c.next_number.new.self minutes c.gather.new.named.items
    c.sort_if_needed.new.named.items sitters fault c.new-fields.ensures
    c.in_ok-minutes.ensures.number c.in_ok-minutes.ensures.left c.in-Ok.ensures.names
    c.in-Ok.ensures.fault c.sort_if_needed.ensures.all c.deref.ensures.value in
    line_entered c.args.enrolments.now c.args.exam fields minutes sitters fault c.requires read
    c.enrol.new.self c.in-None.is c.in-Ok-enrol.ensures.ok c.in-Ok-enrol.ensures.kept

-- all students are in, and then a field is faulty
pub returns-in-Some-clause-err : goal.returns-in-Some-clause-err
returns-in-Some-clause-err c _ =
    let fields = fields_of c.args.line.now in
    let minutes = c.in_ok-minutes.minutes in
    let sitters = c.deref.result.now in
    let fault = c.in-Ok.gathered.fault in
    let read =
    read_of fields c.new-fields.result c.next_number.new.self minutes c.gather.new.named.items
    c.sort_if_needed.new.named.items sitters fault c.new-fields.ensures
    c.in_ok-minutes.ensures.number c.in_ok-minutes.ensures.left c.in-Ok.ensures.names
    c.in-Ok.ensures.fault c.sort_if_needed.ensures.all c.deref.ensures.value in
    line_faulty c.args.enrolments.now c.args.exam fields minutes sitters fault c.requires read
    c.enrol.new.self c.in-Some.what c.in-Some.is c.in-Ok-enrol.ensures.ok
    c.in-Ok-enrol.ensures.kept

-- the students are too many
pub returns-in-Err-clause-err : goal.returns-in-Err-clause-err
returns-in-Err-clause-err c other =
    let fields = fields_of c.args.line.now in
    let minutes = c.in_ok-minutes.minutes in
    let sitters = c.deref.result.now in
    let fault = c.in-Ok.gathered.fault in
    let read =
    read_of fields c.new-fields.result c.next_number.new.self minutes c.gather.new.named.items
    c.sort_if_needed.new.named.items sitters fault c.new-fields.ensures
    c.in_ok-minutes.ensures.number c.in_ok-minutes.ensures.left c.in-Ok.ensures.names
    c.in-Ok.ensures.fault c.sort_if_needed.ensures.all c.deref.ensures.value in
    let judged : c.in-Err.fault ≢ model.NoMemory = λ same. other (c.kind_of.ensures.memory same) in
    rw (c.kind_of.ensures.range judged)
    (line_past c.args.enrolments.now c.args.exam fields minutes sitters fault c.requires read
    (too_many c.args.enrolments.now sitters c.in-Err.fault c.in-Err.ensures.refused judged))
