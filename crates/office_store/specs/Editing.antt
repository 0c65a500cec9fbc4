-- What an edit makes of a draft, before it is written.
use Rattle.std.specs.Prelude.{◌≡◌, ℕ, Result, Ok, Err, Some}
use Rattle.exam_draft.specs.Edits.{edit_result}
use Rattle.exam_draft.specs.declared.edit.Edit.{Edit}
use Rattle.exam_model.specs.Fits.{Fits}
use Rattle.exam_model.specs.Timetable.{Placing}
use Rattle.exam_score.specs.Track.{track}
use Rattle.office_model.specs.DraftCommands.{draft_edited}
use Rattle.office_model.specs.Office.{OfficeState, Records}
use Rattle.office_model.specs.declared.fault.StoreFault.{StoreFault}
use Rattle.office_records.specs.declared.drafts.Draft.{Draft}
use Rattle.office_store.specs.Running.{IsFault}
use Rattle.office_store.specs.declared.editing.EditedDraft.{EditedDraft}
use Rattle.office_store.specs.declared.editing.EditedTimetable.{EditedTimetable}

-- the edit of a draft of these records is legal and gives this timetable
pub record IsJudged (d : ℕ) (change : Edit) (r : Records) (judged : EditedTimetable) : Type 0 where
  pub draft : r.draft d ≡ Some judged.draft.now.timetable
  pub edits : edit_result r.session r.enrolments judged.draft.now.timetable change ≡ Ok judged.new
  pub scored : judged.draft.now.parts ≡ track r.session r.enrolments judged.draft.now.timetable

-- the edit is legal with this result, or is refused with the command's own refusal
abbrev pub Judges : ℕ → Edit → Records → Result EditedTimetable StoreFault → Type 0
Judges d change r (Ok judged) = IsJudged d change r judged
Judges d change r (Err fault) = IsFault (draft_edited d change (Some r)) fault

-- the draft that the edit makes in this office
pub record IsEdited (d : ℕ) (change : Edit) (office : OfficeState) (new : Draft) : Type 0 where
  pub records : Records
  pub is : office ≡ Some records
  pub old : Placing
  pub draft : records.draft d ≡ Some old
  pub edits : edit_result records.session records.enrolments old change ≡ Ok new.timetable
  pub fits : Fits records.session records.enrolments new.timetable
  pub scored : new.parts ≡ track records.session records.enrolments new.timetable

-- the draft that the edit makes, or the command's own refusal
abbrev pub Edits : ℕ → Edit → OfficeState → Result EditedDraft StoreFault → Type 0
Edits d change office (Ok new) = IsEdited d change office new.draft
Edits d change office (Err fault) = IsFault (draft_edited d change office) fault
