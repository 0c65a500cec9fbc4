-- A judged edit: its exams, what holds if it is accepted, and the fault if it is refused.
use Rattle.std.specs.Prelude.{◌≡◌, ℕ, ◌<◌, ◌⊎◌, List, [], ◌∷◌, length, All, Err}
use Rattle.exam_model.specs.Instance.{Session}
use Rattle.exam_model.specs.Enrolments.{Enrolled}
use Rattle.exam_model.specs.Timetable.{Placing}
use Rattle.exam_model.specs.Fits.{Fits}
use Rattle.exam_score.specs.Changes.{DiffersAtMost}
use Rattle.exam_draft.specs.declared.edit.Edit.{Edit}
use Rattle.exam_draft.specs.declared.edit.Edit.TheVariants as edit
use Rattle.exam_draft.specs.declared.fault.EditFault.{EditFault}
use Rattle.exam_draft.specs.declared.fault.EditFault.TheVariants.{NoMemory}
use Rattle.exam_draft.specs.Edits.{Edited}

-- the exams that get or lose a place
abbrev pub edited_exams : Edit → List ℕ
edited_exams (edit.Place e at) = e ∷ []
edited_exams (edit.Move e at) = e ∷ []
edited_exams (edit.Swap a b) = a ∷ (b ∷ [])
edited_exams (edit.Clear e) = e ∷ []

-- what holds of an edit of these exams: they exist, all parts fit together, and every other exam
-- keeps its place
pub record IsEditedAt (I : Session) (E : Enrolled) (old : Placing) (exams : List ℕ)
    (new : Placing) : Type 0 where
  pub exist : All (λ e. e < length I.exams) exams
  pub fits : Fits I E new
  pub others : DiffersAtMost exams old new

-- a call returns this fault for such an edit: its refusal, or out of memory instead
abbrev pub Refuses : Edited → EditFault → Type 0
Refuses edited fault = (edited ≡ Err fault) ⊎ (fault ≡ NoMemory)
