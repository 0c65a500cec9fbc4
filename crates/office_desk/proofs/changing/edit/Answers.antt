use Rattle.std.proofs.Common.{refl}
use Rattle.office_model.specs.Answers.{now_edited}
use Rattle.office_model.specs.DraftCommands.{draft_edited}
use Rattle.office_desk.proofs.AnswerLemmas.{fault_changed, ok_changed}
use Rattle.office_desk.proofs.changing.edit.Goals as goal

pub returns-in_err-penalty : goal.returns-in_err-penalty
returns-in_err-penalty g c =
    fault_changed g.S.Store (now_edited c.args.number)
    (draft_edited c.args.number c.args.change) c.args.office.now c.edit.new.self _ _
    c.in_err-penalty.ensures.runs c.in_err-penalty.ensures.leaves c.from_residual.ensures.1

pub returns : goal.returns
returns g c =
    ok_changed g.S.Store (now_edited c.args.number) (draft_edited c.args.number c.args.change)
    c.args.office.now c.edit.new.self _ _ c.in_ok-penalty.ensures.runs
    c.in_ok-penalty.ensures.leaves (λ none. none) refl
