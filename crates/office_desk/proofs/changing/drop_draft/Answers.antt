use Rattle.std.proofs.Common.{refl}
use Rattle.office_model.specs.Answers.{now_dropped}
use Rattle.office_model.specs.DraftCommands.{draft_dropped}
use Rattle.office_desk.proofs.AnswerLemmas.{fault_changed, ok_changed}
use Rattle.office_desk.proofs.changing.drop_draft.Goals as goal

pub returns-in_err-drop_draft : goal.returns-in_err-drop_draft
returns-in_err-drop_draft g c caller =
    fault_changed g.S.Store (λ done. now_dropped c.args.number)
    (draft_dropped c.args.number) c.args.office.now c.drop_draft.new.self _ _
    c.in_err-drop_draft.ensures.runs c.in_err-drop_draft.ensures.leaves c.from_residual.ensures.1

pub returns : goal.returns
returns g c caller =
    ok_changed g.S.Store (λ done. now_dropped c.args.number) (draft_dropped c.args.number)
    c.args.office.now c.drop_draft.new.self _ _ c.in_ok-drop_draft.ensures.runs
    c.in_ok-drop_draft.ensures.leaves (λ none. none) refl
