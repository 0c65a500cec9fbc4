-- What `check` prints in its other forms.
use Rattle.std.specs.Prelude.{◌≡◌, ◌⊎◌, ℕ, List, Option}
use Rattle.exam_model.specs.Enrolments.{Enrolled}
use Rattle.exam_model.specs.Instance.{Session}
use Rattle.exam_model.specs.Timetable.{Placing}
use Rattle.office_check.specs.Student.{ExplainsFrontTo, IsExplainedTo}
use Rattle.office_check.specs.Verdicts.{WritesVerdict, WritesVerdictFront}
use Rattle.office_check.specs.Why.{ExplainsFront, IsExplained}
use Rattle.office_program.specs.declared.checking.CheckForm.{CheckForm}
use Rattle.office_program.specs.declared.checking.CheckForm.TheVariants.{Json, Why, WhyFor}

-- the report and the summands of the penalty, or those of a student; or the verdict on the solution
-- of this path as a line of JSON
abbrev pub PrintsForm : CheckForm → Session → Enrolled → Placing → (path : List ℕ)
    → (old new : Option (List ℕ)) → ℕ → Type 0
PrintsForm Why I E T path old new status = IsExplained I E T old new status
PrintsForm (WhyFor student) I E T path old new status = IsExplainedTo I E T student old new status
PrintsForm Json I E T path old new status = WritesVerdict I E T path old new status

-- the same, of a front of it
abbrev pub PrintsFormFront : CheckForm → Session → Enrolled → Placing → (path : List ℕ)
    → (old new : Option (List ℕ)) → Type 0
PrintsFormFront Why I E T path old new = ExplainsFront I E T old new
PrintsFormFront (WhyFor student) I E T path old new = ExplainsFrontTo I E T student old new
PrintsFormFront Json I E T path old new = WritesVerdictFront I E T path old new

-- an answer to what is written so is 0 or 3
abbrev pub AreStatuses : (Session → Enrolled → Placing → Option (List ℕ) → Option (List ℕ) → ℕ
    → Type 0) → Type 0
AreStatuses writes = (I : Session) (E : Enrolled) (T : Placing) (old new : Option (List ℕ))
    (answer : ℕ) → writes I E T old new answer → (answer ≡ 0) ⊎ (answer ≡ 3)
