use Rattle.std.proofs.Common.{sym}
use Rattle.std.proofs.lemmas.List.{nil_from_length}
use Rattle.exam_publish.proofs.ChangedLemmas.{start, step_left, step_right, end_left, end_right}
use Rattle.exam_publish.proofs.comparison.differing_candidates.Goals as goal

pub walk-init : goal.walk-init
walk-init c =
    start c.args.old.now c.args.new.now c.new-found.result.items c.new-found.ensures.items
    c.requires.old_in_order c.requires.new_in_order

pub returns-in_default-split_first : goal.returns-in_default-split_first
returns-in_default-split_first c =
    end_left c.push_students.new.found.items c.walk.invariant
    (nil_from_length c.walk.right.now c.in_default-split_first.ensures.cases)
    c.in_ok-push_students.ensures

pub walk-preserved-then-is_before : goal.walk-preserved-then-is_before
walk-preserved-then-is_before c =
    step_left c.in-Some.row.now c.in-Some-split_first.other.now c.in-Some.rest.now
    c.in-Some-split_first.others.now c.walk.invariant
    c.in-Some.ensures.cases.0 c.in-Some-split_first.ensures.cases.0
    (sym c.if-is_before.ensures) c.in_ok-push.ensures.items

pub walk-preserved-then-is_before-2 : goal.walk-preserved-then-is_before-2
walk-preserved-then-is_before-2 c =
    step_right c.in-Some.row.now c.in-Some-split_first.other.now c.in-Some.rest.now
    c.in-Some-split_first.others.now c.walk.invariant
    c.in-Some.ensures.cases.0 c.in-Some-split_first.ensures.cases.0
    (sym c.if-is_before-2.ensures) c.in_ok-push-2.ensures.items

pub returns : goal.returns
returns c =
    end_right c.push_students-2.new.found.items c.walk.invariant
    (nil_from_length c.walk.left.now c.in_default.ensures.cases) c.in_ok-push_students-2.ensures
