use Rattle.std.proofs.Common.{◌≡◌}
use Rattle.exam_model.specs.Enrolments.{no_pairs}
use Rattle.exam_model.proofs.enrolments.Enrolments.new.Given as goal

abbrev pub invariant-rolls : goal.invariant-rolls
invariant-rolls l = l.rolls.items ≡ no_pairs l.counter
