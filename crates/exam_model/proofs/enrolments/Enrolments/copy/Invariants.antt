use Rattle.std.proofs.Common.{◌≡◌, take}
use Rattle.exam_model.proofs.enrolments.Enrolments.copy.Given as goal

abbrev pub invariant-rolls : goal.invariant-rolls
invariant-rolls l = l.copies.items ≡ take l.roll-index l.roll-items
