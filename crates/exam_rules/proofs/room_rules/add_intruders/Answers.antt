use Rattle.std.proofs.Common.{ℕ, Bool, ◌&&◌, ◌==◌, not, ◌∙◌, ap}
use Rattle.exam_rules.specs.Places.{in_one_place}
use Rattle.exam_rules.proofs.FindingLemmas.{found_none, found_more, found_all, at_pair}
use Rattle.exam_rules.proofs.room_rules.add_intruders.Goals as goal

pub others-init : goal.others-init
others-init c = found_none

pub others-preserved : goal.others-preserved
others-preserved c =
    let k : ℕ = c.args.exam in
    let x : ℕ = c.other-item.result in
    let test : ℕ → ℕ → Bool = λ e f. not (e == f) && in_one_place c.args.timetable.now e f in
    found_more c.others.invariant c.others-test.true c.other-item.is c.in_ok-push_some.ensures
    (λ e f. c.pair_if.ensures e f
    ∙ ap (λ b. ((k == e) && (x == f)) && b) c.is_intruder-intruder.ensures
    ∙ at_pair k x test e f)

pub returns : goal.returns
returns c = found_all c.others.invariant c.others-test.false
