use Rattle.std.proofs.Common.{refl}
use Rattle.office_model.specs.Answers.{now_published}
use Rattle.office_model.specs.Publishing.{draft_published}
use Rattle.office_desk.proofs.AnswerLemmas.{fault_changed, ok_changed}
use Rattle.office_desk.proofs.changing.publish.Goals as goal

pub returns-in_err-published : goal.returns-in_err-published
returns-in_err-published g c caller =
    fault_changed g.S.Store (now_published c.args.number)
    (draft_published c.args.number) c.args.office.now c.publish.new.self _ _
    c.in_err-published.ensures.runs c.in_err-published.ensures.leaves c.from_residual.ensures.1

pub returns : goal.returns
returns g c caller =
    ok_changed g.S.Store (now_published c.args.number) (draft_published c.args.number)
    c.args.office.now c.publish.new.self _ _ c.in_ok-published.ensures.runs
    c.in_ok-published.ensures.leaves (λ none. none) refl
