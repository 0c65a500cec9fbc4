use Rattle.std.proofs.Common.{ap}
use Rattle.exam_score.specs.Penalty.{total_of}
use Rattle.office_model.specs.Answers.{shown_draft}
use Rattle.office_model.specs.DraftCommands.{draft_shown}
use Rattle.office_desk.proofs.AnswerLemmas.{fault_shown, ok_shown}
use Rattle.office_desk.proofs.showing.draft.Goals as goal

pub returns-in_err-timetable : goal.returns-in_err-timetable
returns-in_err-timetable g c caller =
    fault_shown g.S.Store
    (λ found. shown_draft c.args.number found.0 (total_of found.1))
    (draft_shown c.args.number) c.args.office.now c.draft.new.self _ _
    c.in_err-timetable.ensures.runs c.in_err-timetable.ensures.leaves
    c.from_residual.ensures.1

pub returns : goal.returns
returns g c caller =
    ok_shown g.S.Store (λ found. shown_draft c.args.number found.0 (total_of found.1))
    (draft_shown c.args.number) c.args.office.now c.draft.new.self _ _
    c.in_ok-timetable.ensures.runs c.in_ok-timetable.ensures.leaves
    (ap (shown_draft c.args.number c.in_ok-timetable.timetable) c.total.ensures.total)
