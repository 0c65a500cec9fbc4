use Rattle.std.proofs.Common.{sym}
use Rattle.std.proofs.lemmas.List.{nil_from_length}
use Rattle.office_records.proofs.SeatDifferenceLemmas.{all_picked, passed, rest_picked, start, taken}
use Rattle.office_records.proofs.seats.seats_beside.Goals as goal

pub walk-init : goal.walk-init
walk-init c =
    start c.args.rows.now c.args.others.now c.new-stored.result.items c.new-stored.ensures.items
    c.requires.rows_in_order c.requires.others_in_order

pub returns-in_default-split_first : goal.returns-in_default-split_first
returns-in_default-split_first c =
    rest_picked c.push_seats.new.stored.items c.walk.invariant
    (nil_from_length c.walk.right.now c.in_default-split_first.ensures.cases)
    c.in_ok-push_seats.ensures

pub walk-preserved-then-is_before : goal.walk-preserved-then-is_before
walk-preserved-then-is_before c =
    passed c.in-Some.row.now c.in-Some-split_first.other.now c.in-Some.rest.now
    c.in-Some-split_first.more.now c.walk.invariant
    c.in-Some.ensures.cases.0 c.in-Some-split_first.ensures.cases.0 (sym c.if-is_before.ensures)

pub walk-preserved : goal.walk-preserved
walk-preserved c =
    taken c.in-Some.row.now c.in-Some-split_first.other.now c.in-Some.rest.now
    c.in-Some-split_first.more.now c.push_unless.new.stored.items c.walk.invariant
    c.in-Some.ensures.cases.0 c.in-Some-split_first.ensures.cases.0 (sym c.if-is_before.ensures)
    c.eq.result c.eq.ensures c.in_ok-push_unless.ensures

pub returns : goal.returns
returns c = all_picked c.walk.invariant (nil_from_length c.walk.left.now c.in_default.ensures.cases)
