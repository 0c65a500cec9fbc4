use Rattle.std.specs.List.{list_any}
use Rattle.std.proofs.Common.{◌≡◌, false, take}
use Rattle.exam_model.specs.Enrolments.{has}
use Rattle.exam_rules.proofs.period_rules.one_sits.Given as goal

abbrev pub invariant-sitters : goal.invariant-sitters
invariant-sitters l =
    list_any (λ s. has l.enrolments s l.other) (take l.student-index l.student-items) ≡ false
