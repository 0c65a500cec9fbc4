use Rattle.std.proofs.Common.{ap, ◌∙◌}
use Rattle.office_reports.specs.PlaceList.{places_text}
use Rattle.office_model.specs.Answers.{text}
use Rattle.office_model.specs.Step.{draft_places_shown}
use Rattle.office_desk.proofs.AnswerLemmas.{fault_shown, memory_performed, ok_shown}
use Rattle.office_desk.proofs.showing.places.Goals as goal

pub returns-in_err-rows : goal.returns-in_err-rows
returns-in_err-rows g c caller =
    fault_shown g.S.Store (λ rows. text (places_text rows))
    (draft_places_shown c.args.number c.args.exam) c.args.office.now c.places.new.self _ _
    c.in_err-rows.ensures.runs c.in_err-rows.ensures.leaves c.from_residual.ensures.1

pub returns-in_err-report : goal.returns-in_err-report
returns-in_err-report g c caller =
    memory_performed g.S.Store _ c.args.office.now c.places.new.self _
    c.in_ok-rows.ensures.leaves c.from_residual-in_err-report.ensures.1

pub returns : goal.returns
returns g c caller =
    ok_shown g.S.Store (λ rows. text (places_text rows))
    (draft_places_shown c.args.number c.args.exam) c.args.office.now c.places.new.self _ _
    c.in_ok-rows.ensures.runs c.in_ok-rows.ensures.leaves
    (ap text (rw c.into_bytes.ensures.value
    (c.in_ok-report.ensures ∙ ap places_text c.deref.ensures.value)))
