use Rattle.std.proofs.Common.{◌≢◌, sym, ◌∙◌, arith}
use Rattle.exam_lists.proofs.Parts.{drop_next}
use Rattle.office_files.specs.Tokens.{token_of}
use Rattle.office_files.specs.declared.fault.FaultKind.TheVariants.{NoMemory}
use Rattle.office_files.proofs.ExamLineSteps.{so_far_fault, so_far_more}
use Rattle.office_files.proofs.exam_lines.exam_lines.Goals as goal

-- a faulty line is the fault of all
pub returns-in-Err-clause-fault : goal.returns-in-Err-clause-fault
returns-in-Err-clause-fault c other =
    let judged : c.in-Err.what ≢ NoMemory = λ same. other (c.at.ensures.kind ∙ same) in
    let all = c.args.lines.now in
    let row = token_of c.in-Some.row in
    rw (c.at.ensures.place judged)
    (so_far_fault all c.lines.lines c.args.count c.lines.exam c.lines.exams.items c.lines.enrolments
    (omega arith) c.lines.invariant.so_far row c.next.new.self c.in-Some.ensures.row c.in-Err.what
    (c.in-Err.ensures.err judged))

-- one more line is read
pub lines-preserved : goal.lines-preserved
lines-preserved c =
    let all = c.args.lines.now in
    let row = token_of c.in-Some.row in
    let entered = rw c.new-in-lines.ensures at c.in-Ok-exam_line.ensures.ok in
    record {
      left =
          sym (drop_next all c.lines.exam row c.next.new.self
          (sym c.lines.invariant.left ∙ c.in-Some.ensures.row));
      kept = c.in-Ok-exam_line.ensures.ok.kept;
      so_far =
          rw c.in_ok-push-in-Ok-exam_line.ensures.items
          (so_far_more all c.lines.lines c.args.count c.lines.exam c.lines.exams.items
          c.lines.enrolments (omega arith) c.lines.invariant.so_far row c.next.new.self
          c.in-Some.ensures.row c.in-Ok-exam_line.exam c.exam_line.new.enrolments entered);
    }
