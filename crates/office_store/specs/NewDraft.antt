-- A new draft.
use Rattle.std.specs.Prelude.{◌≡◌, ℕ, List, Ok}
use Rattle.exam_model.specs.Enrolments.{Enrolled}
use Rattle.exam_model.specs.Fits.{Fits}
use Rattle.exam_model.specs.Instance.{Session}
use Rattle.exam_score.specs.Track.{track}
use Rattle.office_tables.specs.declared.tables.slot.SlotRow.{SlotRow}
use Rattle.office_records.specs.TableRows.{slots_from}
use Rattle.office_model.specs.DraftCommands.{first_timetable}
use Rattle.office_records.specs.declared.drafts.Draft.{Draft}

-- the draft d begins with this timetable and penalty, and its places have these rows
pub record Begins (d : ℕ) (bytes : List ℕ) (I : Session) (E : Enrolled) (begun : Draft)
    (slots : List SlotRow) : Type 0 where
  pub first : first_timetable bytes I ≡ Ok begun.timetable
  pub fits : Fits I E begun.timetable
  pub scored : begun.parts ≡ track I E begun.timetable
  pub rows : slots ≡ slots_from d 0 begun.timetable
