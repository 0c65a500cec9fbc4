use Rattle.std.proofs.Common.{◌≡◌, ◌∙◌, [], ◌∷◌, Some, sym, ap, subst}
use Rattle.std.specs.Prelude.{slice_set}
use Rattle.std.proofs.lemmas.Result.{err_from_is_err_and}
use Rattle.exam_model.specs.Timetable.{Placing}
use Rattle.exam_draft.specs.Edits.{Edited, after_swap, if_unbroken}
use Rattle.exam_draft.specs.Judged.{Refuses}
use Rattle.exam_draft.proofs.EditLemmas.{swap_goes_on}
use Rattle.exam_draft.proofs.judging.judge_swap.Goals as goal
use Rattle.exam_draft.proofs.judging.judge_swap.Goals.{After-refuse_broken}

-- in the judged timetable each exam has the other's place
next_is : (c : After-refuse_broken)
    → c.set-2.new.self
    ≡ slice_set (slice_set c.args.timetable.now c.args.one (Some c.in-Some-get.second))
    c.args.other (Some c.in-Some.first)
next_is c =
    c.set-2.ensures ∙ ap (λ (T : Placing). slice_set T c.args.other (Some c.in-Some.first))
    (c.set.ensures ∙ ap (λ (T : Placing). slice_set T c.args.one (Some c.in-Some-get.second))
    c.in_ok-next.ensures.same)

judged_is : (c : After-refuse_broken)
    → if_unbroken c.args.instance.now c.args.enrolments.now
    (c.args.one ∷ (c.args.other ∷ [])) c.set-2.new.self
    ≡ after_swap c.args.instance.now c.args.enrolments.now c.args.timetable.now c.args.one
    c.args.other
judged_is c =
    ap (λ (T : Placing). if_unbroken c.args.instance.now c.args.enrolments.now
    (c.args.one ∷ (c.args.other ∷ [])) T) (next_is c)
    ∙ swap_goes_on c.args.instance.now c.args.enrolments.now c.args.timetable.now
    c.args.one c.args.other c.in-Some.first c.in-Some-get.second
    (sym c.has_exam.ensures ∙ c.if-not-has_exam.false)
    (sym c.has_exam-else-not-has_exam.ensures ∙ c.if-not-has_exam-2.false)
    (sym c.get.ensures ∙ c.in-Some.is) (sym c.get-2.ensures ∙ c.in-Some-get.is)
    (sym c.eq.ensures ∙ c.if-eq.false)

pub returns-clause-ok : goal.returns-clause-ok
returns-clause-ok c =
    sym (judged_is (goal.at.returns-clause-ok c).After-refuse_broken)
    ∙ c.in_ok-refuse_broken.ensures.ok

pub returns-in_err-refuse_broken-clause-refused : goal.returns-in_err-refuse_broken-clause-refused
returns-in_err-refuse_broken-clause-refused c =
    let p = err_from_is_err_and c.from_residual-in_err-refuse_broken.result
    c.from_residual-in_err-refuse_broken.ensures.1 in
    let is = judged_is
    (goal.at.returns-in_err-refuse_broken-clause-refused c).After-refuse_broken in
    rw (p.1, p.2)
    (subst (λ (edited : Edited). Refuses edited c.in_err-refuse_broken.field-0.0)
    is c.in_err-refuse_broken.ensures.refused)
