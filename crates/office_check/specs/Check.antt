-- The output and the exit status of `check`.
use Rattle.std.specs.Prelude.{◌≡◌, ℕ, ◌++◌, ◌∷◌, [], IfSome, List, Option}
use Rattle.std.specs.Io.KnownBytes.{Appends}
use Rattle.exam_model.specs.Enrolments.{Enrolled}
use Rattle.exam_model.specs.Instance.{Session}
use Rattle.exam_model.specs.Timetable.{Placing}
use Rattle.exam_rules.specs.Breaches.{breaches_of}
use Rattle.exam_rules.specs.declared.breach.Breach.{Breach}
use Rattle.exam_score.specs.Track.{track}
use Rattle.office_files.specs.InstanceText.{InstanceText}
use Rattle.office_files.specs.SolutionText.{SolutionText}
use Rattle.office_output.specs.Writing.{WritesFront}
use Rattle.office_reports.specs.Reports.{penalty_text, violation_text}

-- the printed text: the breaches, then the penalty
abbrev pub report : Session → Enrolled → Placing → List ℕ
report I E T = violation_text (breaches_of I E T) ++ penalty_text (track I E T)

-- 3 exactly if there is a breach
abbrev pub status_of : List Breach → ℕ
status_of [] = 0
status_of (breach ∷ breaches) = 3

-- the exit status
abbrev pub exit_status : Session → Enrolled → Placing → ℕ
exit_status I E T = status_of (breaches_of I E T)

-- the instance's text has a reading
pub record IsRead (instance : List ℕ) : Type 0 where
  pub session : Session
  pub enrolled : Enrolled
  pub spells : InstanceText instance session enrolled

-- both texts have a reading
pub record AreRead (instance solution : List ℕ) : Type 0 where
  pub first : IsRead instance
  pub placing : Placing
  pub spells : SolutionText solution first.session placing

-- both texts have this reading
pub record AreReadAs (instance solution : List ℕ) (I : Session) (E : Enrolled) (T : Placing)
    : Type 0 where
  pub session : InstanceText instance I E
  pub timetable : SolutionText solution I T

-- the text is that of the input, if that is known
abbrev pub IsInput : Option (List ℕ) → List ℕ → Type 0
IsInput input text = IfSome input (λ known. known ≡ text)

-- texts of the two inputs have this reading
pub record AreReadFrom (first second : Option (List ℕ)) (I : Session) (E : Enrolled) (T : Placing)
    : Type 0 where
  pub instance : List ℕ
  pub solution : List ℕ
  pub of_first : IsInput first instance
  pub of_second : IsInput second solution
  pub read : AreReadAs instance solution I E T

-- both texts have a reading, of which this holds
pub record OfTexts (instance solution : List ℕ) (P : Session → Enrolled → Placing → Type 0)
    : Type 0 where
  pub read : AreRead instance solution
  pub holds : P read.first.session read.first.enrolled read.placing

-- texts of the two inputs have a reading, of which this holds
pub record OfInputs (first second : Option (List ℕ)) (P : Session → Enrolled → Placing → Type 0)
    : Type 0 where
  pub instance : List ℕ
  pub solution : List ℕ
  pub of_first : IsInput first instance
  pub of_second : IsInput second solution
  pub texts : OfTexts instance solution P

-- whatever the texts were: some two have a reading, of which this holds
pub record OfSome (P : Session → Enrolled → Placing → Type 0) : Type 0 where
  pub instance : List ℕ
  pub solution : List ℕ
  pub texts : OfTexts instance solution P

-- the report is written, and its status is answered
pub record IsReported (I : Session) (E : Enrolled) (T : Placing) (old new : Option (List ℕ))
    (answer : ℕ) : Type 0 where
  pub written : Appends old new (report I E T)
  pub status : answer ≡ exit_status I E T

-- some two texts have a reading, its report is written, and its status is answered
abbrev pub WritesReport : Option (List ℕ) → Option (List ℕ) → ℕ → Type 0
WritesReport old new answer = OfSome (λ I E T. IsReported I E T old new answer)

-- a front of the report is written
abbrev pub ReportsFront : Session → Enrolled → Placing → Option (List ℕ) → Option (List ℕ)
    → Type 0
ReportsFront I E T old new = WritesFront old new (report I E T)
