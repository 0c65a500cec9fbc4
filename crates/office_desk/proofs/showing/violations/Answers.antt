use Rattle.std.proofs.Common.{ap, ◌∙◌}
use Rattle.exam_model.specs.Enrolments.{Enrolled}
use Rattle.exam_model.specs.Instance.{Session}
use Rattle.exam_model.specs.Timetable.{Placing}
use Rattle.exam_rules.specs.Breaches.{breaches_of}
use Rattle.office_reports.specs.Reports.{violation_text}
use Rattle.office_model.specs.Answers.{text}
use Rattle.office_model.specs.Step.{draft_in_session}
use Rattle.office_desk.proofs.AnswerLemmas.{ok_shown, part_performed}
use Rattle.office_desk.proofs.showing.violations.Goals as goal

pub returns : goal.returns
returns g c caller =
    part_performed g.S.Store
    (λ (found : (Session × Enrolled) × Placing). breaches_of found.0.0 found.0.1 found.1)
    (λ breaches. text (violation_text breaches)) (draft_in_session c.args.number)
    c.args.office.now c.breaches.new.self _
    (ok_shown g.S.Store (λ breaches. text (violation_text breaches)) _ c.args.office.now
    c.breaches.new.self _ _ c.in_ok-breaches.ensures.runs c.in_ok-breaches.ensures.leaves
    (ap text (rw c.into_bytes.ensures.value
    (c.in_ok-report.ensures ∙ ap violation_text c.deref.ensures.value))))
