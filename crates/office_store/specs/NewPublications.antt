-- The writes of a publication.
use Rattle.std.specs.Prelude.{◌≡◌, ℕ, List, [], ◌∷◌, map, length, All, IsPermutation}
use Rattle.std.specs.Prelude.{Option, Some, None, option_map, Result, Ok, Err, Vec}
use Rattle.std.specs.declared.alloc.Global.{Global}
use Rattle.exam_model.specs.Instance.{Session}
use Rattle.exam_model.specs.Timetable.{Placing}
use Rattle.exam_publish.specs.Changed.{changed_students}
use Rattle.exam_publish.specs.Permit.{publish_refusal}
use Rattle.exam_publish.specs.Shares.{shares_of, student_shares}
use Rattle.exam_publish.specs.declared.seat_row.SeatRow.{SeatRow}
use Rattle.exam_score.specs.Penalty.{Penalty}
use Rattle.exam_score.specs.Track.{track}
use Rattle.office_tables.specs.declared.tables.placed.PlacedRow.{PlacedRow}
use Rattle.office_tables.specs.Tables.SharePart.{ArePartAmounts}
use Rattle.office_tables.specs.Tables.ShareStudent.{AreStudentAmounts}
use Rattle.office_model.specs.Office.{OfficeState, Records}
use Rattle.office_model.specs.Publishing.{draft_published, published_as, publication_rows}
use Rattle.office_model.specs.DraftCommands.{live_penalty}
use Rattle.office_model.specs.declared.fault.StoreFault.{StoreFault}
use Rattle.office_records.specs.FoundPublications.{publication_from}
use Rattle.office_records.specs.Publications.{placed_from, placed_rows, stored_seat}
use Rattle.office_records.specs.SeatsStored.{rows_beside}
use Rattle.office_records.specs.SharesStored.{retimed_students, share_rows_of, student_share_row}
use Rattle.office_records.specs.PartShares.{part_rows}
use Rattle.office_records.specs.TableRows.{session_text}
use Rattle.office_store.specs.ChangedPlacements.{changed_rows}
use Rattle.office_store.specs.Running.{IsFault}
use Rattle.office_store.specs.declared.new_publication.NewPublication.{NewPublication}
use Rattle.office_store.specs.RowPuts.{deleted_placement, placement_put, seat_gone, seat_put, deleted_share, student_share_put, part_share_put}

-- ---- the writes

-- the text of the row about the office, if no placement was published before
abbrev pub mark_text : Session → List PlacedRow → Option (List ℕ)
mark_text I [] = Some (session_text I)
mark_text I (row ∷ before) = None

-- the candidates among these whose shares are deleted: none if nothing was published before
abbrev pub candidates_before : List SeatRow → List ℕ → List ℕ
candidates_before [] students = []
candidates_before (row ∷ old) students = students

-- the writes that replace the placements before by this timetable: only placements and seats that
-- differ are deleted and inserted, and the shares of only those candidates whose exams or periods
-- differ; with the counts that the call returns
pub record AreInserted (I : Session) (T : Placing) (before : List PlacedRow)
    (old rows : List SeatRow)
    (penalty : ℕ) (new : NewPublication) : Type 0 where
  pub text : option_map (λ text. text.items) new.text ≡ mark_text I before
  pub deleted_placements : new.deleted_placements.items
      ≡ map deleted_placement (changed_rows before (placed_from 0 T))
  pub placements : new.placements.items ≡ map placement_put (changed_rows (placed_from 0 T) before)
  pub seats_gone : new.seats_gone.items
      ≡ map seat_gone (map stored_seat (rows_beside rows old))
  pub seats : new.seats.items ≡ map seat_put (map stored_seat (rows_beside old rows))
  pub deleted_shares : new.deleted_shares.items
      ≡ map deleted_share (candidates_before old (retimed_students old rows))
  pub students : new.students.items ≡ map student_share_put
      (share_rows_of (retimed_students old rows) (map student_share_row (student_shares I rows)))
  pub parts : new.parts.items ≡ map part_share_put (part_rows (shares_of I rows T))
  pub counts : new.counts
      ≡ record { changed = length (changed_students old rows); penalty = penalty }

-- amounts that fit the tables' columns
pub record AreSmallShares (new : NewPublication) : Type 0 where
  pub students : All (λ it. AreStudentAmounts it.row) new.students.items
  pub parts : All (λ it. ArePartAmounts it.row) new.parts.items

-- ---- by an office's records

-- the command's writes for a draft that fits and may be published, and the new publication with its
-- penalty
pub record IsInsertedFor (d : ℕ) (r : Records) (new : NewPublication)
    (published : Placing × Vec SeatRow Global) (penalty : Penalty) : Type 0 where
  pub timetable : Placing
  pub draft : r.draft d ≡ Some timetable
  pub permitted : publish_refusal r.session r.enrolments timetable ≡ None
  pub before : List PlacedRow
  pub were : IsPermutation before (placed_rows r.published)
  pub put : AreInserted r.session timetable before (publication_rows r.published)
      (published_as r timetable).rows (live_penalty r timetable) new
  pub made : publication_from (Some published) ≡ Some (published_as r timetable)
  pub priced : track r.session r.enrolments timetable ≡ penalty

-- the writes, or the command's own refusal
abbrev pub Publishes : ℕ → Records
    → Result (NewPublication × (Placing × Vec SeatRow Global) × Penalty) StoreFault → Type 0
Publishes d r (Ok new) = IsInsertedFor d r new.0 new.1 new.2
Publishes d r (Err fault) = IsFault (draft_published d (Some r)) fault

-- the command's writes for an office, and its new publication with its penalty
pub record IsInserted (d : ℕ) (office : OfficeState) (new : NewPublication)
    (published : Placing × Vec SeatRow Global) (penalty : Penalty) : Type 0 where
  pub records : Records
  pub is : office ≡ Some records
  pub put : IsInsertedFor d records new published penalty

-- the writes, or the command's own refusal
abbrev pub InsertsOrRefuses : ℕ → OfficeState
    → Result (NewPublication × (Placing × Vec SeatRow Global) × Penalty) StoreFault → Type 0
InsertsOrRefuses d office (Ok new) = IsInserted d office new.0 new.1 new.2
InsertsOrRefuses d office (Err fault) = IsFault (draft_published d office) fault
