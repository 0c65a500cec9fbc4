use Rattle.std.proofs.Common.{subst, sym}
use Rattle.std.specs.Io.KnownBytes.{Appends}
use Rattle.office_output.specs.Writing.{WritesFront}
use Rattle.office_program.specs.CheckAll.{AddsOutcome}
use Rattle.office_program.proofs.CheckAllFacts.{fault_added, line_added, stops_at}
use Rattle.office_program.proofs.judging.judge_one.Goals as goal

-- the line of a solution that was judged
pub returns-in_ok-write_text-in-Ok-clause-ok : goal.returns-in_ok-write_text-in-Ok-clause-ok
returns-in_ok-write_text-in-Ok-clause-ok g c =
    subst (AddsOutcome _ _ _ _ _ _ _ _ _ _ _ _ _) (sym c.with_verdict.ensures)
    (line_added _ _ _ (g.T.Texts.known c.args.files.now) _ _ c.in-Ok.line _ _ _ _ _ _
    c.in-Ok.ensures.unread c.in-Ok.ensures.ok
    (subst (Appends _ _) c.as_bytes.ensures.value c.in_ok-write_text-in-Ok.ensures.ok))

-- a front of it
pub returns-in_err-write_text-in-Ok-clause-err : goal.returns-in_err-write_text-in-Ok-clause-err
returns-in_err-write_text-in-Ok-clause-err g c =
    stops_at _ _ _ _ _ _ _ _ _ _ c.in-Ok.line c.in-Ok.ensures.ok
    (subst (WritesFront _ _) c.as_bytes.ensures.value c.in_err-write_text-in-Ok.ensures.err)

-- the line of a fault
pub returns-in-Err-clause-ok : goal.returns-in-Err-clause-ok
returns-in-Err-clause-ok g c =
    subst (AddsOutcome _ _ _ _ _ _ _ _ _ _ _ _ _) (sym c.with_fault.ensures)
    (fault_added _ _ _ (g.T.Texts.known c.args.files.now) _ _ _
    c.tell_of-is_err_written.result c.args.path.now c.in-Err.fault c.args.found _ _ _
    c.fault_of_solution.result c.in-Err.ensures.unread
    c.in-Err.ensures.refused c.fault_of_solution.ensures c.tell_of-is_err_written.ensures)
