use Rattle.std.proofs.Common.{◌≡◌, ◌∙◌, IfSome, IfNone, ap, subst}
use Rattle.exam_model.specs.Instance.{IsInstance}
use Rattle.exam_score.specs.Exchanges.{CannotExchange, IsExchanged, new_amounts, edit_share, old_amounts}
use Rattle.exam_score.specs.Touched.{is_touched}
use Rattle.exam_score.specs.Folds.{Folded, pairs_sat}
use Rattle.exam_score.specs.EditedCosts.{personal_at, personal_sum}
use Rattle.exam_score.specs.Penalty.{penalty_sum}
use Rattle.exam_score.proofs.ExchangeLemmas.{exchange_scores}
use Rattle.exam_score.proofs.FoldLemmas.{sum_of_student}
use Rattle.exam_score.proofs.edit_fold.EditFold.finish.Goals as goal

-- the fold by its parts
folded : (c : goal.After-drop-self-inside) → Folded
folded c =
    let f = c.self.inside in
    record { instance = f.instance.now; earlier = f.earlier.now; later = f.later.now; edited = f.edited.now; count = f.count; before = f.before; after = f.after; current = pairs_sat f.student f.exams.items }

goes_is : (c : goal.After-drop-self-inside)
    → c.edit_share-goes.result ≡ old_amounts c.args.self c.args.sizes.now
goes_is c =
    let f = c.self.inside in
    let fold : Folded = folded c in
    let students : c.plus-before.result
    ≡ penalty_sum f.before
    (personal_sum f.instance.now f.earlier.now f.edited.now (pairs_sat f.student f.exams.items))
    = c.plus-before.ensures
    ∙ ap (penalty_sum f.before) (c.personal_at-before.ensures.sum
    ∙ ap (personal_at f.instance.now f.earlier.now f.edited.now) c.deref.ensures.value
    ∙ sum_of_student f.instance.now f.earlier.now f.edited.now f.student f.exams.items
    (λ none. (c.self.invariant.started none).1)) in
    c.edit_share-goes.ensures
    ∙ ap (edit_share f.instance.now f.earlier.now f.edited.now
    (is_touched f.edited.now f.earlier.now f.later.now) c.args.sizes.now) students
    ∙ ap (λ v. old_amounts v c.args.sizes.now) c.self.view_is

comes_is : (c : goal.After-drop-self-inside)
    → c.edit_share-comes.result ≡ new_amounts c.args.self c.args.sizes.now
comes_is c =
    let f = c.self.inside in
    let fold : Folded = folded c in
    let students : c.plus-after.result
    ≡ penalty_sum f.after
    (personal_sum f.instance.now f.later.now f.edited.now (pairs_sat f.student f.exams.items))
    = c.plus-after.ensures
    ∙ ap (penalty_sum f.after) (c.personal_at-after.ensures.sum
    ∙ ap (personal_at f.instance.now f.later.now f.edited.now) c.deref-2.ensures.value
    ∙ sum_of_student f.instance.now f.later.now f.edited.now f.student f.exams.items
    (λ none. (c.self.invariant.started none).1)) in
    c.edit_share-comes.ensures
    ∙ ap (edit_share f.instance.now f.later.now f.edited.now
    (is_touched f.edited.now f.earlier.now f.later.now) c.args.sizes.now) students
    ∙ ap (λ v. new_amounts v c.args.sizes.now) c.self.view_is

made_is : (c : goal.After-drop-self-inside)
    → IfSome c.exchange.result
    (IsExchanged c.args.old_parts (old_amounts c.args.self c.args.sizes.now)
    (new_amounts c.args.self c.args.sizes.now))
made_is c =
    subst (λ goes. IfSome c.exchange.result
    (IsExchanged c.args.old_parts goes (new_amounts c.args.self c.args.sizes.now)))
    (goes_is c)
    (subst (λ comes. IfSome c.exchange.result
    (IsExchanged c.args.old_parts c.edit_share-goes.result comes))
    (comes_is c) c.exchange.ensures.made)

none_is : (c : goal.After-drop-self-inside)
    → IfNone c.exchange.result
    (CannotExchange c.args.old_parts (old_amounts c.args.self c.args.sizes.now)
    (new_amounts c.args.self c.args.sizes.now))
none_is c =
    subst (λ goes. IfNone c.exchange.result
    (CannotExchange c.args.old_parts goes (new_amounts c.args.self c.args.sizes.now)))
    (goes_is c)
    (subst (λ comes. IfNone c.exchange.result
    (CannotExchange c.args.old_parts c.edit_share-goes.result comes))
    (comes_is c) c.exchange.ensures.none)

pub returns-clause-scored : goal.returns-clause-scored
returns-clause-scored c = λ E pairs h is.
    exchange_scores c.args.self E pairs c.args.sizes.now c.args.old_parts c.exchange.result
    (subst (λ (v : Folded). IsInstance v.instance) c.self.view_is c.lemma_limits.ensures)
    (made_is c) (none_is c) h is

pub returns-clause-made : goal.returns-clause-made
returns-clause-made c = made_is c

pub returns-clause-none : goal.returns-clause-none
returns-clause-none c = none_is c
