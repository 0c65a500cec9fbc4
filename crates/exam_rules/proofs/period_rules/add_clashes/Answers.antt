use Rattle.std.proofs.Common.{ℕ, Bool, ◌&&◌, ◌==◌, nat_lt, sym, ◌∙◌, ap, eq-eqb}
use Rattle.std.proofs.lemmas.List.Folds.{list_any_at}
use Rattle.exam_rules.specs.Places.{share_student}
use Rattle.exam_rules.proofs.FindingLemmas.{found_none, found_more, found_all, at_pair}
use Rattle.exam_rules.proofs.period_rules.add_clashes.Goals as goal

pub others-init : goal.others-init
others-init c = found_none

pub is_clash-clash-requires-clause-near : goal.is_clash-clash-requires-clause-near
is_clash-clash-requires-clause-near c share =
    let x : ℕ = c.other-item.result in
    c.near_of-near.ensures x
    (λ s sits. c.requires.marked x s
    (list_any_at (λ k. k == x) c.args.group.now c.others.other-index x c.others-test.true
    (eq-eqb _ _ (sym c.other-item.is)))
    sits)
    share

pub is_clash-clash-requires-clause-marked : goal.is_clash-clash-requires-clause-marked
is_clash-clash-requires-clause-marked c s sits =
    c.requires.marked c.args.exam s c.requires.own sits

pub is_clash-clash-requires-clause-other_marked : goal.is_clash-clash-requires-clause-other_marked
is_clash-clash-requires-clause-other_marked c s sits =
    let x : ℕ = c.other-item.result in
    c.requires.marked x s
    (list_any_at (λ k. k == x) c.args.group.now c.others.other-index x c.others-test.true
    (eq-eqb _ _ (sym c.other-item.is)))
    sits

pub others-preserved : goal.others-preserved
others-preserved c =
    let k : ℕ = c.args.exam in
    let x : ℕ = c.other-item.result in
    let test : ℕ → ℕ → Bool = λ e f. nat_lt e f && share_student c.args.enrolments.now e f in
    found_more c.others.invariant c.others-test.true c.other-item.is c.in_ok-push_some.ensures
    (λ e f. c.pair_if.ensures e f ∙ ap (λ b. ((k == e) && (x == f)) && b) c.is_clash-clash.ensures
    ∙ at_pair k x test e f)

pub returns : goal.returns
returns c = found_all c.others.invariant c.others-test.false
