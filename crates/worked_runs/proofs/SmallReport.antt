-- The small session by the definitions only: its report, and that its files have no fault.
use Rattle.std.proofs.Common.{[], ◌≡◌, ◌∙◌, ◌++◌, None, Result, Ok, Err, ap, ap₂, refl, sym}
use Rattle.core.specs.Fmt.{digits}
use Rattle.jiff_core.specs.Calendar.{day_count, days_from_civil, days_of_months, days_of_years}
use Rattle.exam_model.specs.Enrolments.{Enrolled}
use Rattle.exam_model.specs.Instance.{Session}
use Rattle.exam_model.specs.Timetable.{Placing}
use Rattle.exam_rules.specs.Breaches.{breaches_of}
use Rattle.exam_score.specs.MixedDurations.{duration_count}
use Rattle.exam_score.specs.Penalty.{Penalty}
use Rattle.exam_score.specs.Track.{track}
use Rattle.office_files.specs.FirstFault.{first_fault, first_solution_fault}
use Rattle.office_files.specs.InstanceText.{InstanceText, instance_in}
use Rattle.office_files.specs.SolutionText.{SolutionText, solution_in}
use Rattle.office_files.specs.declared.fault.FileFault.{FileFault}
use Rattle.office_files.proofs.InstanceLaws.{text_is_read}
use Rattle.office_files.proofs.SolutionLaws.{text_is_solution}
use Rattle.office_check.specs.Check.{exit_status, report, status_of}
use Rattle.office_reports.specs.Reports.{penalty_text, violation_text}
use Rattle.worked_runs.specs.SmallSession.{session_text, solution_text, ten_lines}

-- ---- of two readings

module _ {X : Type 0} (other : X) where
  abbrev of_solution : (Placing → X) → Result Placing FileFault → X
  of_solution f (Ok T) = f T
  of_solution f (Err fault) = other

  -- what is found of the readings of a session and of its solution
  abbrev of_readings : (Session → Enrolled → Placing → X) → (Session → Result Placing FileFault)
      → Result (Session × Enrolled) FileFault → X
  of_readings f read (Ok s) = of_solution (f s.0 s.1) (read s.0)
  of_readings f read (Err fault) = other

  -- the small session has one reading, and its solution too
  of_texts : (f : Session → Enrolled → Placing → X) (I : Session) (E : Enrolled) (T : Placing)
      → InstanceText session_text I E → SolutionText solution_text I T
      → f I E T ≡ of_readings f (λ I. solution_in I solution_text) (instance_in session_text)
  of_texts f I E T session timetable =
      ap (of_solution (f I E)) (sym (text_is_solution I solution_text T timetable))
      ∙ ap (of_readings f (λ I. solution_in I solution_text))
      (sym (text_is_read session_text I E session))

-- ---- of the small session

abbrev small_penalty : Penalty
small_penalty = record {
  row = 7;
  day = 5;
  spread = 3;
  night = 0;
  mixed = 0;
  front = 0;
  period = 15;
  room = 7;
}

abbrev of_small : {X : Type 0} → X → (Session → Enrolled → Placing → X) → X
of_small other f =
    of_readings other f (λ I. solution_in I solution_text) (instance_in session_text)

computed_penalty : of_small small_penalty track ≡ small_penalty
unfolding days_from_civil day_count days_of_years days_of_months duration_count
computed_penalty = refl

computed_breaches : of_small [] breaches_of ≡ []
computed_breaches = refl

computed_text : violation_text [] ++ penalty_text small_penalty ≡ ten_lines
unfolding digits
computed_text = refl

module _ (I : Session) (E : Enrolled) (T : Placing) (session : InstanceText session_text I E)
    (timetable : SolutionText solution_text I T) where
  no_breach : breaches_of I E T ≡ []
  no_breach = of_texts [] breaches_of I E T session timetable ∙ computed_breaches

  -- the ten lines are its report
  pub small_report : report I E T ≡ ten_lines
  small_report =
      ap₂ (λ breaches penalty. violation_text breaches ++ penalty_text penalty) no_breach
      (of_texts small_penalty track I E T session timetable ∙ computed_penalty) ∙ computed_text

  -- it has no breach
  pub small_status : exit_status I E T ≡ 0
  small_status = ap status_of no_breach

-- its files have no fault
pub no_fault : first_fault session_text ≡ None
no_fault = refl

abbrev of_session : {X : Type 0} → X → (Session → X) → Result (Session × Enrolled) FileFault → X
of_session other f (Ok s) = f s.0
of_session other f (Err fault) = other

computed_solution_fault : of_session None (λ I. first_solution_fault I solution_text)
    (instance_in session_text) ≡ None
computed_solution_fault = refl

pub no_solution_fault : (I : Session) (E : Enrolled) → InstanceText session_text I E
    → first_solution_fault I solution_text ≡ None
no_solution_fault I E session =
    ap (of_session None (λ I. first_solution_fault I solution_text))
    (sym (text_is_read session_text I E session)) ∙ computed_solution_fault
