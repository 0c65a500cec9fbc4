use Rattle.std.specs.List.{list_any}
use Rattle.std.proofs.Common.{◌≡◌, ◌<◌, [], ap, sym, ◌∙◌, arith}
use Rattle.std.proofs.lemmas.Bool.Decides.{nat_tests}
use Rattle.std.proofs.lemmas.List.{nil_from_length}
use Rattle.exam_model.specs.Enrolments.{has_number}
use Rattle.exam_rules.proofs.CommonLemmas.{step_left, step_right, none_common}
use Rattle.exam_rules.proofs.relations.have_common.Goals as goal

pub walk-preserved-then-lt : goal.walk-preserved-then-lt
walk-preserved-then-lt c =
    let lt : c.in-Some.student.now < c.in-Some-split_first.other.now =
    grind (arith, nat_tests, c.if-lt.ensures) in
    step_left c.walk.left.now c.walk.right.now c.in-Some.others.now c.in-Some-split_first.rest.now _
    _ _ c.in-Some.ensures.cases.0 c.in-Some-split_first.ensures.cases.0 lt c.walk.invariant

pub walk-preserved : goal.walk-preserved
walk-preserved c =
    let lt : c.in-Some-split_first.other.now < c.in-Some.student.now =
    grind (arith, nat_tests, c.if-lt.ensures, c.if-eq.ensures) in
    step_right c.walk.left.now c.walk.right.now c.in-Some.others.now c.in-Some-split_first.rest.now
    _ _ _ c.in-Some.ensures.cases.0 c.in-Some-split_first.ensures.cases.0 lt c.walk.invariant

pub returns-in_default-split_first : goal.returns-in_default-split_first
returns-in_default-split_first c =
    let left = c.walk.left.now in
    let none : c.walk.right.now ≡ [] = nil_from_length _ c.in_default-split_first.ensures.cases in
    sym (none_common left) ∙ ap (λ ys. list_any (λ s. has_number ys s) left) (sym none)
    ∙ c.walk.invariant.same
