use Rattle.std.proofs.Common.{◌≡◌, ◌∙◌, ◌+◌, [], ◌∷◌, ◌++◌, Some, sym, ap, subst, true≢false}
use Rattle.exam_model.specs.Pairs.{Pair}
use Rattle.exam_score.specs.Penalty.{PersonalPenalty, penalty_sum}
use Rattle.exam_score.specs.Folds.{CanFollow, Folded, RepresentsPairs, pairs_sat}
use Rattle.exam_score.specs.EditedCosts.{personal_at, personal_sum}
use Rattle.exam_score.proofs.FoldLemmas.{none_open, represents_more, represents_turn, sum_of_student}
use Rattle.exam_score.proofs.edit_fold.EditFold.row.Goals as goal

pub returns-then-is_open-clause-ok : goal.returns-then-is_open-clause-ok
returns-then-is_open-clause-ok c = λ pairs h.
    let f = c.self.inside in
    let fold : Folded =
    record { instance = f.instance.now; earlier = f.earlier.now; later = f.later.now; edited = f.edited.now; count = f.count; before = f.before; after = f.after; current = pairs_sat f.student f.exams.items } in
    let value : fold ≡ c.args.self.now = c.self.view_is in
    let own : f.student ≡ Some c.args.student = c.is_open.ensures.0 c.if-is_open.true in
    let items : c.push.new.self.items ≡ f.exams.items ++ c.args.exam ∷ [] =
    c.in_ok-push.ensures.items in
    let more = represents_more fold pairs c.args.student c.args.exam f.exams.items
    (subst (λ v. RepresentsPairs v pairs) (sym value) h)
    (ap (λ o. pairs_sat o f.exams.items) own)
    (none_open f.count f.student f.exams.items c.self.invariant.started
    c.self.invariant.continues_front)
    (subst (λ v. CanFollow v (record { exam = c.args.exam; student = c.args.student }))
    (sym value) c.requires.follows) in
    subst (λ ps. RepresentsPairs (record fold { count = f.count + 1; current = ps })
    (pairs ++ record { exam = c.args.exam; student = c.args.student } ∷ []))
    (ap (λ o. pairs_sat o (f.exams.items ++ c.args.exam ∷ [])) (sym own)
    ∙ ap (λ es. pairs_sat f.student es) (sym items)) more

pub returns-clause-ok : goal.returns-clause-ok
returns-clause-ok c = λ pairs h.
    let f = c.self.inside in
    let fold : Folded =
    record { instance = f.instance.now; earlier = f.earlier.now; later = f.later.now; edited = f.edited.now; count = f.count; before = f.before; after = f.after; current = pairs_sat f.student f.exams.items } in
    let value : fold ≡ c.args.self.now = c.self.view_is in
    let before : c.personal_at-before.result
    ≡ personal_sum fold.instance fold.earlier fold.edited fold.current
    = c.personal_at-before.ensures.sum
    ∙ ap (personal_at fold.instance fold.earlier fold.edited) c.deref.ensures.value
    ∙ sum_of_student fold.instance fold.earlier fold.edited f.student f.exams.items
    (λ none. (c.self.invariant.started none).1) in
    let after : c.personal_at-after.result
    ≡ personal_sum fold.instance fold.later fold.edited fold.current
    = c.personal_at-after.ensures.sum
    ∙ ap (personal_at fold.instance fold.later fold.edited) c.deref-2.ensures.value
    ∙ sum_of_student fold.instance fold.later fold.edited f.student f.exams.items
    (λ none. (c.self.invariant.started none).1) in
    let items : c.push-2.new.self.items ≡ c.args.exam ∷ [] =
    c.in_ok-push-2.ensures.items
    ∙ ap (λ es. es ++ c.args.exam ∷ []) c.new-exams.ensures.items in
    let other : f.student ≡ Some c.args.student → ⊥ =
    λ is. true≢false (sym (c.is_open.ensures.1 is) ∙ c.if-is_open.false) in
    let more = represents_turn fold pairs c.args.student c.args.exam f.student f.exams.items
    c.personal_at-before.result c.personal_at-after.result
    (subst (λ v. RepresentsPairs v pairs) (sym value) h)
    (λ _. pairs_sat f.student f.exams.items) other
    (none_open f.count f.student f.exams.items c.self.invariant.started
    c.self.invariant.continues_front)
    (subst (λ v. CanFollow v (record { exam = c.args.exam; student = c.args.student }))
    (sym value) c.requires.follows) before after in
    let pair : Pair = record { exam = c.args.exam; student = c.args.student } in
    subst (λ (p : PersonalPenalty).
    RepresentsPairs (record
    fold { count = f.count + 1; before = c.plus-self-inside.result; after = p; current = pairs_sat (Some c.args.student) c.push-2.new.self.items })
    (pairs ++ pair ∷ []))
    (sym c.plus-self-inside-2.ensures)
    (subst (λ (p : PersonalPenalty).
    RepresentsPairs (record
    fold { count = f.count + 1; before = p; after = penalty_sum fold.after c.personal_at-after.result; current = pairs_sat (Some c.args.student) c.push-2.new.self.items })
    (pairs ++ pair ∷ []))
    (sym c.plus-self-inside.ensures)
    (subst (λ es.
    RepresentsPairs (record
    fold { count = f.count + 1; before = penalty_sum fold.before c.personal_at-before.result; after = penalty_sum fold.after c.personal_at-after.result; current = pairs_sat (Some c.args.student) es })
    (pairs ++ pair ∷ []))
    (sym items) more))
