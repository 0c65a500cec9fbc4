use Rattle.std.proofs.Common.{◌≡◌, ◌∙◌, ◌++◌, ℕ, List, ap, ap₂}
use Rattle.exam_model.specs.Enrolments.{Enrolled}
use Rattle.exam_model.specs.Instance.{Session}
use Rattle.exam_model.specs.Timetable.{Placing}
use Rattle.exam_rules.specs.Breaches.{breaches_of}
use Rattle.exam_rules.specs.declared.breach.Breach.{Breach}
use Rattle.exam_score.specs.Penalty.{Penalty}
use Rattle.exam_score.specs.Track.{track}
use Rattle.office_check.specs.Check.{report}
use Rattle.office_reports.specs.Reports.{penalty_text, violation_text}
use Rattle.office_check.proofs.reporting.judge.Goals as goal

-- the penalty's text after that of the breaches
both : (I : Session) (E : Enrolled) (T : Placing) (found : List Breach) (parts : Penalty)
    (text first second : List ℕ) → text ≡ first ++ second
    → first ≡ violation_text found → second ≡ penalty_text parts
    → found ≡ breaches_of I E T → parts ≡ track I E T → text ≡ report I E T
both I E T found parts text first second joined violations penalty listed scored =
    joined ∙ ap₂ (λ a b. a ++ b) (violations ∙ ap violation_text listed)
    (penalty ∙ ap penalty_text scored)

pub returns-clause-text : goal.returns-clause-text
returns-clause-text c =
    both c.args.instance.now c.args.enrolments.now c.args.timetable.now c.deref.result.now
    c.in_ok-parts.parts _ _ c.as_str.result.now
    c.in_ok-push_str.ensures.bytes c.in_ok-text.ensures
    (c.as_str.ensures.value ∙ c.in_ok-penalty_report.ensures)
    (c.deref.ensures.value ∙ c.in_ok-found.ensures.listed) c.in_ok-parts.ensures
