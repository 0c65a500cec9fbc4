use Rattle.std.proofs.Common.{◌≡◌, ◌∙◌, [], ◌∷◌, Ok, Some, ap, subst}
use Rattle.std.specs.Prelude.{slice_set}
use Rattle.std.proofs.lemmas.Result.{err_from_is_err_and}
use Rattle.exam_model.specs.Timetable.{Placing}
use Rattle.exam_draft.specs.Edits.{if_unbroken}
use Rattle.exam_draft.specs.Judged.{Refuses}
use Rattle.exam_draft.proofs.judging.place_if_unbroken.Goals as goal
use Rattle.exam_draft.proofs.judging.place_if_unbroken.Goals.{After-refuse_broken}

-- in the judged timetable the exam has its new place
next_is : (c : After-refuse_broken)
    → c.set.new.self ≡ slice_set c.args.timetable.now c.args.exam (Some c.args.place)
next_is c =
    c.set.ensures
    ∙ ap (λ (T : Placing). slice_set T c.args.exam (Some c.args.place)) c.in_ok-next.ensures.same

pub returns-clause-ok : goal.returns-clause-ok
returns-clause-ok c =
    subst (λ (T : Placing). if_unbroken c.args.instance.now c.args.enrolments.now
    (c.args.exam ∷ []) T ≡ Ok c.set.new.self)
    (next_is (goal.at.returns-clause-ok c).After-refuse_broken) c.in_ok-refuse_broken.ensures.ok

pub returns-in_err-refuse_broken-clause-refused : goal.returns-in_err-refuse_broken-clause-refused
returns-in_err-refuse_broken-clause-refused c =
    let p = err_from_is_err_and c.from_residual-in_err-refuse_broken.result
    c.from_residual-in_err-refuse_broken.ensures.1 in
    let is = next_is (goal.at.returns-in_err-refuse_broken-clause-refused c).After-refuse_broken in
    rw (p.1, p.2)
    (subst (λ (T : Placing). Refuses (if_unbroken c.args.instance.now c.args.enrolments.now
    (c.args.exam ∷ []) T) c.in_err-refuse_broken.field-0.0)
    is c.in_err-refuse_broken.ensures.refused)
