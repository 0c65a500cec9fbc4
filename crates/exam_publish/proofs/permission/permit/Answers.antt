use Rattle.std.proofs.lemmas.Grind.{common_steps}
use Rattle.std.proofs.Common.{arith}
use Rattle.std.proofs.lemmas.Result.{err_from_is_err_and}
use Rattle.exam_publish.proofs.PermitLemmas.{none_unplaced, some_unplaced}
use Rattle.exam_publish.proofs.permission.permit.Goals as goal

pub returns-in-Some-clause-refused : goal.returns-in-Some-clause-refused
returns-in-Some-clause-refused c = grind (arith, common_steps, some_unplaced, c.in-Some.ensures.first)

pub returns-in_err-found-clause-refused : goal.returns-in_err-found-clause-refused
returns-in_err-found-clause-refused c =
    let p = err_from_is_err_and c.from_residual.result c.from_residual.ensures.1 in
    rw (p.1, p.2) (none_unplaced c.args.timetable.now c.in_default.ensures.none)

pub returns-in-Some-least-clause-refused : goal.returns-in-Some-least-clause-refused
returns-in-Some-least-clause-refused c =
    grind (arith, common_steps, none_unplaced)

pub returns-clause-ok : goal.returns-clause-ok
returns-clause-ok c =
    grind (arith, common_steps, none_unplaced)
