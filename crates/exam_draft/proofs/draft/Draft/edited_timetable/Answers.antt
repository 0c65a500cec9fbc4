use Rattle.std.proofs.Common.{◌≡◌, Ok, IfErr, IfOk, subst}
use Rattle.exam_draft.specs.Drafts.{DraftState}
use Rattle.exam_draft.specs.Edits.{edit_result}
use Rattle.exam_draft.specs.Judged.{edited_exams, IsEditedAt, Refuses}
use Rattle.exam_draft.proofs.draft.Draft.edited_timetable.Goals as goal

-- the draft is of the instance, the enrolments and the timetable that it holds
pub returns-clause-ok : goal.returns-clause-ok
returns-clause-ok c =
    subst (λ (d : DraftState). IfOk c.judge.result
    (λ next. edit_result d.instance d.enrolments d.timetable c.args.edit ≡ Ok next))
    c.self.view_is c.judge.ensures.ok

pub returns-clause-refused : goal.returns-clause-refused
returns-clause-refused c =
    subst (λ (d : DraftState). IfErr c.judge.result
    (Refuses (edit_result d.instance d.enrolments d.timetable c.args.edit)))
    c.self.view_is c.judge.ensures.refused

pub returns-clause-kept : goal.returns-clause-kept
returns-clause-kept c =
    subst (λ (d : DraftState). IfOk c.judge.result
    (IsEditedAt d.instance d.enrolments d.timetable (edited_exams c.args.edit)))
    c.self.view_is c.judge.ensures.kept
