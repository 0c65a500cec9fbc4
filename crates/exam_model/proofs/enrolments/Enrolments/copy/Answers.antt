use Rattle.std.proofs.Common.{◌∙◌, take_all}
use Rattle.exam_model.proofs.enrolments.Enrolments.copy.Goals as goal

pub returns-clause-same : goal.returns-clause-same
returns-clause-same c =
    c.rolls.invariant ∙ take_all c.rolls.roll-index c.deref-roll-items.result.now c.rolls-test.false
    ∙ c.deref-roll-items.ensures.value ∙ c.self.view_is

pub returns-clause-kept : goal.returns-clause-kept
returns-clause-kept c = rw (returns-clause-same c, ← c.self.view_is) c.self.invariant.0.0

pub invariant_of-result : goal.invariant_of-result
invariant_of-result c = (rw (returns-clause-same c, ← c.self.view_is) c.self.invariant.0, tt)
