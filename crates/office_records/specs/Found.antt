-- When rows that were found are those of an office's records, table by table.
use Rattle.std.specs.Prelude.{◌≡◌, ◌≢◌, ℕ, ◌<◌, ◌≤◌, Bool, List, [], map, length, All, Option, Some, IsSome, is_some, IsPermutation}
use Rattle.std.specs.List.{AllByRecursion}
use Rattle.exam_terms.specs.declared.limits.TheConstants.{MAX_DEPARTMENT, MAX_DRAFTS}
use Rattle.exam_model.specs.Enrolments.{Enrolled}
use Rattle.exam_model.specs.Fits.{Fits, PlaceExists}
use Rattle.exam_model.specs.Instance.{Session, IsInstance}
use Rattle.exam_model.specs.Pairs.{pairs_of}
use Rattle.exam_model.specs.Timetable.{Placing}
use Rattle.exam_score.specs.Track.{track}
use Rattle.office_tables.specs.Tables.{tables_of, empty_tables}
use Rattle.office_tables.specs.Tables.Metadata.{Meta}
use Rattle.office_tables.specs.declared.tables.Found.{Found}
use Rattle.office_tables.specs.declared.tables.owner.OwnerRow.{OwnerRow}
use Rattle.office_tables.specs.declared.tables.enrol.EnrolRow.{EnrolRow}
use Rattle.office_tables.specs.declared.tables.draft.DraftRow.{DraftRow}
use Rattle.office_tables.specs.declared.tables.slot.SlotRow.{SlotRow}
use Rattle.office_tables.specs.declared.tables.share_part.PartShareRow.{PartShareRow}
use Rattle.office_tables.specs.declared.tables.placed.PlacedRow.{PlacedRow}
use Rattle.office_tables.specs.declared.tables.seat.SeatRow.{SeatRow}
use Rattle.office_tables.specs.declared.tables.share_student.StudentShareRow.{StudentShareRow}
use Rattle.office_model.specs.Office.{AreEnrolled, Publication}
use Rattle.office_records.specs.Publications.{ArePublicationRows}
use Rattle.office_records.specs.FoundPublications.{ArePublished}
use Rattle.office_records.specs.SharesStored.{AreShared}
use Rattle.office_records.specs.Representation.{parts_of}
use Rattle.office_records.specs.TableRows.{session_text, enrol_row, slots_from, slot_rows, number_if, some_dept, owners_at, drafts_at, slots_at}

-- the row of this session, whether it has a publication or not
pub record IsSessionRow (found : Meta) (I : Session) : Type 0 where
  pub session : IsInstance I
  pub text : found.instance ≡ session_text I

-- these rows name the owners of this session's exams
pub record AreOwners (I : Session) (found : List OwnerRow) (owner_of : ℕ → ℕ) : Type 0 where
  pub rows : (e : ℕ) → map (λ o. o.dept) (owners_at e found) ≡ some_dept (owner_of e)
  pub departments : (e : ℕ) → owner_of e ≤ MAX_DEPARTMENT
  pub owned : (e : ℕ) → owner_of e ≢ 0 → e < length I.exams

-- these rows are the pairs of enrolments of this session's exams
pub record AreEnrolRows (I : Session) (found : List EnrolRow) (E : Enrolled) : Type 0 where
  pub enrolled : AreEnrolled I E
  pub rows : IsPermutation found (map enrol_row (pairs_of E))

-- the rows of this draft, among others, are the places of this timetable
pub record AreSlots (I : Session) (d : ℕ) (found : List SlotRow) (T : Placing) : Type 0 where
  pub exams : length T ≡ length I.exams
  pub places : All (PlaceExists I) T
  pub rows : IsPermutation (slots_at d found) (slots_from d 0 T)

-- these rows are drafts, with their places and their penalties
pub record AreDrafts (I : Session) (E : Enrolled) (found : List DraftRow) (places : List SlotRow)
    (draft : ℕ → Option Placing) : Type 0 where
  pub numbered : (d : ℕ) → IsSome (draft d) → (1 ≤ d) × (d ≤ MAX_DRAFTS)
  pub fits : (d : ℕ) (T : Placing) → draft d ≡ Some T → Fits I E T
  pub rows : (d : ℕ) → map (λ row. row.no) (drafts_at d found) ≡ number_if (is_some (draft d)) d
  pub slots : (d : ℕ) → IsPermutation (slots_at d places) (slot_rows d (draft d))
  pub scored : AllByRecursion
      (λ row. (T : Placing) → draft row.no ≡ Some T → parts_of row ≡ track I E T) found

-- these rows, with the flag whether something is published, are the session's publication and its
-- shares
pub record ArePublication (I : Session) (mark : Bool) (places : List PlacedRow)
    (seats : List SeatRow) (students : List StudentShareRow) (parts : List PartShareRow)
    (published : Option Publication) : Type 0 where
  pub rows : ArePublicationRows mark places seats published
  pub is : ArePublished I published
  pub shared : AreShared I published students parts

-- no row is part of a publication or its shares
pub record HasNoPublication (found : Found) : Type 0 where
  pub placements : found.placements.items ≡ []
  pub seats : found.seats.items ≡ []
  pub student_shares : found.student_shares.items ≡ []
  pub part_shares : found.part_shares.items ≡ []

-- the rows found before a load
pub record IsUnloaded (found : Found) : Type 0 where
  pub batches : found.batches.items ≡ []
  pub tables : tables_of found [] ≡ empty_tables
