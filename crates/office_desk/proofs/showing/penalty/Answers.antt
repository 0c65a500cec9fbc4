use Rattle.std.proofs.Common.{ap}
use Rattle.exam_model.specs.Timetable.{Placing}
use Rattle.exam_score.specs.Penalty.{Penalty}
use Rattle.office_reports.specs.Reports.{penalty_text}
use Rattle.office_model.specs.Answers.{text}
use Rattle.office_model.specs.DraftCommands.{draft_shown}
use Rattle.office_store.specs.Pricing.{penalty_shown}
use Rattle.office_desk.proofs.AnswerLemmas.{fault_shown, memory_performed, ok_shown, part_performed}
use Rattle.office_desk.proofs.showing.penalty.Goals as goal

pub returns-in_err-report : goal.returns-in_err-report
returns-in_err-report g c caller =
    memory_performed g.S.Store _ c.args.office.now c.penalty.new.self _
    c.in_ok-parts.ensures.leaves c.from_residual-in_err-report.ensures.1

pub returns-in_err-parts : goal.returns-in_err-parts
returns-in_err-parts g c caller =
    part_performed g.S.Store (λ (found : Placing × Penalty). found.1)
    (λ parts. text (penalty_text parts)) (draft_shown c.args.number) c.args.office.now
    c.penalty.new.self _
    (fault_shown g.S.Store (λ parts. text (penalty_text parts)) (penalty_shown c.args.number)
    c.args.office.now c.penalty.new.self _ _ c.in_err-parts.ensures.runs
    c.in_err-parts.ensures.leaves c.from_residual.ensures.1)

pub returns : goal.returns
returns g c caller =
    part_performed g.S.Store (λ (found : Placing × Penalty). found.1)
    (λ parts. text (penalty_text parts)) (draft_shown c.args.number) c.args.office.now
    c.penalty.new.self _
    (ok_shown g.S.Store (λ parts. text (penalty_text parts)) (penalty_shown c.args.number)
    c.args.office.now c.penalty.new.self _ _ c.in_ok-parts.ensures.runs
    c.in_ok-parts.ensures.leaves
    (ap text (rw c.into_bytes.ensures.value c.in_ok-report.ensures)))
