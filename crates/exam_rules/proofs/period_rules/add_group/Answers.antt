use Rattle.std.specs.List.{list_any}
use Rattle.std.proofs.Common.{ℕ, Bool, ◌&&◌, ◌||◌, ◌==◌, nat_lt, sym, ◌∙◌, ap, eq-eqb}
use Rattle.std.proofs.lemmas.List.Folds.{list_any_at}
use Rattle.std.proofs.Math.Bool.{and_assoc}
use Rattle.exam_lists.proofs.Booleans.{and_swap}
use Rattle.exam_rules.specs.Breach.{is_pair}
use Rattle.exam_model.specs.Enrolments.{has_number}
use Rattle.exam_rules.specs.Places.{share_student}
use Rattle.exam_rules.proofs.FindingLemmas.{found_none, found_more, found_all}
use Rattle.exam_rules.proofs.period_rules.add_group.Goals as goal

pub exams-init : goal.exams-init
exams-init c = found_none

pub add_clashes-requires-clause-own : goal.add_clashes-requires-clause-own
add_clashes-requires-clause-own c =
    let x : ℕ = c.exam-item.result in
    list_any_at (λ k. k == x) c.args.group.now c.exams.exam-index x c.exams-test.true
    (eq-eqb _ _ (sym c.exam-item.is))

pub add_clashes-requires-clause-marked : goal.add_clashes-requires-clause-marked
add_clashes-requires-clause-marked c = λ f s h sits. c.mark.ensures f s h sits

pub exams-preserved : goal.exams-preserved
exams-preserved c =
    let x : ℕ = c.exam-item.result in
    let test : ℕ → ℕ → Bool = λ e f. nat_lt e f && share_student c.args.enrolments.now e f in
    found_more c.exams.invariant c.exams-test.true c.exam-item.is c.in_ok-add_clashes.ensures
    (λ e f. and_swap (has_number c.args.group.now f) (x == e) (test e f))

pub returns : goal.returns
returns c e f =
    found_all c.exams.invariant c.exams-test.false e f
    ∙ ap (λ b. list_any (is_pair e f) c.args.found.now.items || b)
    (sym (and_assoc (has_number c.args.group.now e) (has_number c.args.group.now f)
    (nat_lt e f && share_student c.args.enrolments.now e f)))
