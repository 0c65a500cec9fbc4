use Rattle.std.specs.List.{list_any}
use Rattle.std.proofs.Common.{ℕ, Bool, ◌||◌, take, sym, ◌∙◌, ap, ap₂}
use Rattle.std.proofs.lemmas.List.{take_all}
use Rattle.std.proofs.lemmas.List.Folds.{list_any_at, list_any_more}
use Rattle.exam_lists.proofs.Counts.{count_by_any}
use Rattle.exam_model.specs.Enrolments.{students, has}
use Rattle.exam_rules.proofs.period_rules.one_sits.Goals as goal

pub sitters-preserved : goal.sitters-preserved
sitters-preserved c =
    let x : ℕ = c.student-item.result in
    let xs = c.students-student-items.result.now in
    let i = c.sitters.student-index in
    let sits : ℕ → Bool = λ s. has c.args.enrolments.now s c.args.other in
    list_any_more sits xs i x c.sitters-test.true
    ∙ ap (λ y. list_any sits (take i xs) || sits y) (sym c.student-item.is)
    ∙ ap₂ (λ a b. a || b) c.sitters.invariant (sym c.sits.ensures ∙ c.if-sits.false)

pub returns-then-sits : goal.returns-then-sits
returns-then-sits c =
    let x : ℕ = c.student-item.result in
    let xs = c.students-student-items.result.now in
    let sits : ℕ → Bool = λ s. has c.args.enrolments.now s c.args.other in
    sym (count_by_any sits (students c.args.enrolments.now c.args.exam)
    ∙ sym (ap (list_any sits) c.students-student-items.ensures.all)
    ∙ list_any_at sits xs c.sitters.student-index x c.sitters-test.true
    (ap sits (sym c.student-item.is) ∙ sym c.sits.ensures ∙ c.if-sits.true))

pub returns : goal.returns
returns c =
    let xs = c.students-student-items.result.now in
    let sits : ℕ → Bool = λ s. has c.args.enrolments.now s c.args.other in
    sym (count_by_any sits (students c.args.enrolments.now c.args.exam)
    ∙ sym (ap (list_any sits) (take_all c.sitters.student-index xs c.sitters-test.false
    ∙ c.students-student-items.ensures.all))
    ∙ c.sitters.invariant)
