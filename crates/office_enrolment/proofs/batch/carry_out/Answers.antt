use Rattle.std.proofs.Common.{inl}
use Rattle.office_enrolment.proofs.LineLemmas.{line_full}
use Rattle.office_enrolment.proofs.batch.carry_out.Goals as goal

pub returns-in-Err-Range-clause-refused : goal.returns-in-Err-Range-clause-refused
returns-in-Err-Range-clause-refused c =
    let why = rw c.in-Err-Range.field-0-is at c.in-Err-Range.ensures.refused in
    inl (line_full c.args.change.now c.args.enrolments.now c.if-not-change.false why.0 why.1 why.2)
