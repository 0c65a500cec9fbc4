use Rattle.std.proofs.Common.{◌≡◌, ◌<◌, [], ap, arith}
use Rattle.std.proofs.lemmas.Bool.Decides.{nat_tests}
use Rattle.std.proofs.lemmas.List.{nil_from_length}
use Rattle.exam_places.proofs.CommonStudents.{common, none_common, step_both, step_left, step_right}
use Rattle.exam_places.proofs.shared.count_common.Goals as goal

pub walk-preserved-then-lt : goal.walk-preserved-then-lt
walk-preserved-then-lt c =
    let lt : c.in-Some.student.now < c.in-Some-split_first.other.now =
    grind (arith, nat_tests, c.if-lt.ensures) in
    step_left c.walk.left.now c.walk.right.now c.in-Some.others.now c.in-Some-split_first.rest.now _
    _ _ _ c.in-Some.ensures.cases.0 c.in-Some-split_first.ensures.cases.0 lt c.walk.invariant

pub walk-preserved-then-lt-2 : goal.walk-preserved-then-lt-2
walk-preserved-then-lt-2 c =
    let lt : c.in-Some-split_first.other.now < c.in-Some.student.now =
    grind (arith, nat_tests, c.if-lt-2.ensures) in
    step_right c.walk.left.now c.walk.right.now c.in-Some.others.now c.in-Some-split_first.rest.now
    _ _ _ _ c.in-Some.ensures.cases.0 c.in-Some-split_first.ensures.cases.0 lt c.walk.invariant

pub walk-preserved : goal.walk-preserved
walk-preserved c =
    let same : c.in-Some.student.now ≡ c.in-Some-split_first.other.now =
    grind (arith, nat_tests, c.if-lt.ensures, c.if-lt-2.ensures) in
    step_both c.walk.left.now c.walk.right.now c.in-Some.others.now c.in-Some-split_first.rest.now
    _ _ _ _ c.in-Some.ensures.cases.0 c.in-Some-split_first.ensures.cases.0 same c.walk.invariant

pub returns-in_default-split_first : goal.returns-in_default-split_first
returns-in_default-split_first c =
    let none : c.walk.right.now ≡ [] = nil_from_length _ c.in_default-split_first.ensures.cases in
    let gone = ap (common c.walk.left.now) none in
    omega (arith, gone, none_common c.walk.left.now, c.walk.invariant.counted)
