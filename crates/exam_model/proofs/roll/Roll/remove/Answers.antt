use Rattle.std.proofs.Common.{sym}
use Rattle.exam_model.proofs.RollLemmas.{has_gap, ascending_remove, leaves_remove, leaves_again}
use Rattle.exam_model.proofs.roll.Roll.remove.Goals as goal

pub invariant_of-self : goal.invariant_of-self
invariant_of-self c =
    rw c.remove.ensures.items
    (ascending_remove c.self.inside.students.items c.in-Ok.at
    (rw c.self.view_is c.in-Ok.ensures.found.within) c.self.invariant)

pub returns-in-Ok-clause-left : goal.returns-in-Ok-clause-left
returns-in-Ok-clause-left c =
    rw (← c.self.view_is, c.remove.ensures.items)
    (leaves_remove c.self.inside.students.items c.args.student c.in-Ok.at
    (rw c.self.view_is c.in-Ok.ensures.found) c.self.invariant)

pub returns-in-Err-clause-removed : goal.returns-in-Err-clause-removed
returns-in-Err-clause-removed c = sym (has_gap _ _ _ c.in-Err.ensures.absent)

pub returns-in-Err-clause-left : goal.returns-in-Err-clause-left
returns-in-Err-clause-left c =
    leaves_again _ _ _ c.in-Err.ensures.absent (rw c.self.view_is at c.self.invariant)
