-- When tables represent an office, and are sound.
use Rattle.std.specs.Prelude.{◌≡◌, ℕ, List, [], ◌∷◌, map, Some, None, is_some, IsPermutation}
use Rattle.std.specs.List.{AllByRecursion}
use Rattle.sqlite.specs.Effect.{Database}
use Rattle.exam_model.specs.Pairs.{pairs_of}
use Rattle.exam_model.specs.Timetable.{Placing}
use Rattle.exam_score.specs.Penalty.{Penalty}
use Rattle.exam_score.specs.Track.{track}
use Rattle.office_tables.specs.TablesHeld as tables
use Rattle.office_tables.specs.Tables.Batches.{FitsBatch, Batch}
use Rattle.office_tables.specs.Tables.{Tables, empty_tables}
use Rattle.office_tables.specs.declared.tables.draft.DraftRow.{DraftRow}
use Rattle.office_tables.specs.declared.version.Version.{Version}
use Rattle.office_tables.specs.declared.version.Version.TheVariants.{Two}
use Rattle.office_model.specs.Office.{OfficeState, Records, KeptBatch, IsOffice}
use Rattle.office_records.specs.Publications.{RowsRepresentPublication}
use Rattle.office_records.specs.SharesStored.{AreShared}
use Rattle.office_records.specs.TableRows.{meta_row, enrol_row, slot_rows, stored_batch, number_if, some_dept, owners_at, drafts_at, slots_at}

-- ---- the tables

-- these rows are the kept batches, with their bytes and counts, and numbers of 32 bits
pub record RowsRepresentBatches (rows : List Batch) (kept : List KeptBatch) : Type 0 where
  pub same : IsPermutation rows (map stored_batch kept)
  pub fit : AllByRecursion FitsBatch rows

-- each table has exactly the office's part; penalties and shares aren't judged
pub record TablesRepresentRecords (t : Tables) (r : Records) : Type 0 where
  pub meta : t.meta ≡ meta_row (is_some r.published) r.session ∷ []
  pub owner : (e : ℕ) → map (λ o. o.dept) (owners_at e t.owner) ≡ some_dept (r.owner_of e)
  pub enrol : IsPermutation t.enrol (map enrol_row (pairs_of r.enrolments))
  pub draft : (d : ℕ) → map (λ row. row.no) (drafts_at d t.draft)
      ≡ number_if (is_some (r.draft d)) d
  pub slot : (d : ℕ) → IsPermutation (slots_at d t.slot) (slot_rows d (r.draft d))
  pub published : RowsRepresentPublication t.placed t.seat r.published
  pub batches : RowsRepresentBatches t.batch r.batches

-- the tables represent the office: before a load they are empty
abbrev pub TablesRepresentOffice : Tables → OfficeState → Type 0
TablesRepresentOffice t None = t ≡ empty_tables
TablesRepresentOffice t (Some r) = TablesRepresentRecords t r

-- ---- soundness

-- the eight parts of the penalty in a draft's row
abbrev pub parts_of : DraftRow → Penalty
parts_of row = record {
  row = row.in_row;
  day = row.in_day;
  spread = row.spread;
  night = row.night;
  mixed = row.mixed;
  front = row.front;
  period = row.period;
  room = row.room;
}

-- the stored parts are the penalty of the draft's timetable with the live enrolments
abbrev pub IsScoredRow : Records → DraftRow → Type 0
IsScoredRow r row =
    (T : Placing) → r.draft row.no ≡ Some T → parts_of row ≡ track r.session r.enrolments T

-- each draft's row has its penalty, and the rows of shares are those of the publication
pub record AreSound (t : Tables) (r : Records) : Type 0 where
  pub scored : AllByRecursion (IsScoredRow r) t.draft
  pub shared : AreShared r.session r.published t.share_student t.share_part

-- the same; if nothing is loaded, the tables are sound
abbrev pub IsSound : Tables → OfficeState → Type 0
IsSound t None = Unit {0}
IsSound t (Some r) = AreSound t r

-- ---- a database

-- the database's tables represent this office in this version, and are sound
pub record RepresentsOfficeIn (version : Version) (db : Database) (o : OfficeState) : Type 0 where
  pub held : Tables
  pub tables : tables.HoldsTablesIn version db held
  pub represents : TablesRepresentOffice held o
  pub sound : IsSound held o
  pub office : IsOffice o

-- the database is that of an office
abbrev pub RepresentsOffice : Database → OfficeState → Type 0
RepresentsOffice = RepresentsOfficeIn Two
