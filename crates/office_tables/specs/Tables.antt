-- The tables of an office. Each has a page of its own. Here is what is said of all of them: their
-- rows, their schema, columns and limits, and what statements make of them.
pub mod Batches
pub mod Draft
pub mod Enrol
pub mod Metadata
pub mod Owner
pub mod Placed
pub mod Seat
pub mod SharePart
pub mod ShareStudent
pub mod Slot
use Rattle.std.specs.Prelude.{◌≡◌, ◌++◌, ◌==◌, ◌&&◌, ℕ, Bool, false, List, [], ◌∷◌, map, filter, flat_map, reverse, not, codes}
use Rattle.std.specs.List.{AllByRecursion}
use Rattle.sqlite_value.specs.Order.{Row}
use Rattle.sqlite_schema.specs.declared.schema.Schema.{Schema}
use Rattle.office_schema.specs.Schema.{index_of}
use Rattle.office_tables.specs.declared.tables.draft.DraftRow.{DraftRow}
use Rattle.office_tables.specs.declared.tables.enrol.EnrolRow.{EnrolRow}
use Rattle.office_tables.specs.declared.tables.Found.{Found}
use Rattle.office_tables.specs.declared.tables.owner.OwnerRow.{OwnerRow}
use Rattle.office_tables.specs.declared.tables.share_part.PartShareRow.{PartShareRow}
use Rattle.office_tables.specs.declared.tables.placed.PlacedRow.{PlacedRow}
use Rattle.office_tables.specs.declared.tables.seat.SeatRow.{SeatRow}
use Rattle.office_tables.specs.declared.tables.slot.SlotRow.{SlotRow}
use Rattle.office_tables.specs.declared.tables.share_student.StudentShareRow.{StudentShareRow}
use Rattle.office_tables.specs.declared.version.Version.TheVariants.{Two}
use Rattle.office_tables.specs.declared.version.Version.{Version}
use Rattle.office_tables.specs.Tables.Metadata.{meta_columns, meta_from, meta_table, Meta}
use Rattle.office_tables.specs.Tables.Owner.{owner_columns, owner_table, FitsOwner}
use Rattle.office_tables.specs.Tables.Enrol.{enrol_columns, enrol_table, FitsEnrol}
use Rattle.office_tables.specs.Tables.Draft.{draft_columns, draft_table, night_draft_columns, night_draft_table, FitsDraft}
use Rattle.office_tables.specs.Tables.Slot.{slot_columns, slot_table, FitsSlot}
use Rattle.office_tables.specs.Tables.Placed.{placed_columns, placed_table, FitsPlacement}
use Rattle.office_tables.specs.Tables.Seat.{seat_columns, seat_table, FitsSeat}
use Rattle.office_tables.specs.Tables.ShareStudent.{night_share_columns, night_share_table, share_student_columns, share_student_table, FitsStudentShare}
use Rattle.office_tables.specs.Tables.SharePart.{share_part_columns, share_part_table, FitsPartShare}
use Rattle.office_tables.specs.Tables.Batches.{batch_columns, batch_table, Batch, FitsBatch}

-- the rows of the tables; a draft and a student's share are in two tables each
pub record Tables : Type 0 where
  pub meta : List Meta
  pub owner : List OwnerRow
  pub enrol : List EnrolRow
  pub draft : List DraftRow
  pub slot : List SlotRow
  pub placed : List PlacedRow
  pub seat : List SeatRow
  pub share_student : List StudentShareRow
  pub share_part : List PartShareRow
  pub batch : List Batch

-- the tables before a load
abbrev pub empty_tables : Tables
empty_tables = record {
  meta = record { published = false; instance = [] } ∷ [];
  owner = [];
  enrol = [];
  draft = [];
  slot = [];
  placed = [];
  seat = [];
  share_student = [];
  share_part = [];
  batch = [];
}

-- ---- the schema

-- The twelve tables of an office's file as SQLite keeps them, schema version 2, and the ten of
-- version 1. All are STRICT, all columns are NOT NULL. A table's rows are in the tree of its
-- number; each key of more than one column, and each UNIQUE, has a tree of its own after that of
-- its table.

-- version 1: ten tables and the indexes of their keys
abbrev pub schema_before : Schema
schema_before = record {
  tables = meta_table ∷ owner_table ∷ enrol_table ∷ draft_table ∷ slot_table ∷ placed_table ∷
      seat_table ∷ share_student_table ∷ share_part_table ∷ batch_table ∷ [];
  indexes = index_of (codes "sqlite_autoindex_enrol_1") 3 2 (1 ∷ 2 ∷ [])
      ∷ index_of (codes "sqlite_autoindex_slot_1") 6 5 (1 ∷ 2 ∷ [])
      ∷ index_of (codes "sqlite_autoindex_seat_1") 9 8 (1 ∷ 2 ∷ [])
      ∷ index_of (codes "sqlite_autoindex_seat_2") 10 8 (3 ∷ 4 ∷ 5 ∷ [])
      ∷ index_of (codes "sqlite_autoindex_share_part_1") 13 12 (1 ∷ 2 ∷ [])
      ∷ [];
  views = [];
}

-- version 2: two more tables at the end
abbrev pub office_schema : Schema
office_schema = record schema_before {
  tables = meta_table ∷ owner_table ∷ enrol_table ∷ draft_table ∷ slot_table ∷ placed_table ∷
      seat_table ∷ share_student_table ∷ share_part_table ∷ batch_table ∷ night_draft_table ∷
      night_share_table ∷ [];
}

-- ---- the rows as columns, and their limits

-- the columns of the rows of the tables of both versions, in the order of the schema
abbrev pub columns_in : Version → Tables → List (List Row)
columns_in version t =
    map (meta_columns version) t.meta ∷ map owner_columns t.owner ∷ map enrol_columns t.enrol
    ∷ map draft_columns t.draft ∷ map slot_columns t.slot ∷ map placed_columns t.placed
    ∷ map seat_columns t.seat ∷ map share_student_columns t.share_student
    ∷ map share_part_columns t.share_part ∷ map batch_columns t.batch ∷ []

-- those of the amounts over night
abbrev pub night_columns_of : Tables → List (List Row)
night_columns_of t =
    map night_draft_columns t.draft ∷ map night_share_columns t.share_student ∷ []

-- the columns of the rows of all twelve tables, in the order of the schema
abbrev pub all_columns : Tables → List (List Row)
all_columns t = columns_in Two t ++ night_columns_of t

-- the tables of an office, with numbers that fit the program's types
pub record AreReadable (t : Tables) : Type 0 where
  pub row : Meta
  pub meta : t.meta ≡ row ∷ []
  pub owner : AllByRecursion FitsOwner t.owner
  pub enrol : AllByRecursion FitsEnrol t.enrol
  pub draft : AllByRecursion FitsDraft t.draft
  pub slot : AllByRecursion FitsSlot t.slot
  pub placed : AllByRecursion FitsPlacement t.placed
  pub seat : AllByRecursion FitsSeat t.seat
  pub share_student : AllByRecursion FitsStudentShare t.share_student
  pub share_part : AllByRecursion FitsPartShare t.share_part
  pub batch : AllByRecursion FitsBatch t.batch

-- the tables with the rows found and with these batches
abbrev pub tables_of : Found → List Batch → Tables
tables_of found batches = record {
  meta = meta_from found.meta ∷ [];
  owner = found.owners.items;
  enrol = found.enrols.items;
  draft = found.drafts.items;
  slot = found.slots.items;
  placed = found.placements.items;
  seat = found.seats.items;
  share_student = found.student_shares.items;
  share_part = found.part_shares.items;
  batch = batches;
}

-- ---- the effects of statements

-- without any row about the office
abbrev pub no_meta : Tables → Tables
no_meta t = record t { meta = [] }

-- with a first row about the office
abbrev pub with_meta : Bool → List ℕ → Tables → Tables
with_meta published instance t =
    record t { meta = record { published = published; instance = instance } ∷ t.meta }

-- with one more owner
abbrev pub with_owner : OwnerRow → Tables → Tables
with_owner row t = record t { owner = row ∷ t.owner }

-- without the owner of this exam
abbrev pub without_owner : ℕ → Tables → Tables
without_owner exam t = record t { owner = filter (λ r. not (r.exam == exam)) t.owner }

-- with one more enrolment
abbrev pub with_enrol : EnrolRow → Tables → Tables
with_enrol row t = record t { enrol = row ∷ t.enrol }

-- with these enrolments, added one after another
abbrev pub with_enrols : List EnrolRow → Tables → Tables
with_enrols rows t = record t { enrol = reverse rows ++ t.enrol }

-- without this student's enrolment in this exam
abbrev pub without_enrol : ℕ → ℕ → Tables → Tables
without_enrol student exam t =
    record t { enrol = filter (λ r. not ((r.student == student) && (r.exam == exam))) t.enrol }

-- with one more draft
abbrev pub with_draft : DraftRow → Tables → Tables
with_draft row t = record t { draft = row ∷ t.draft }

-- without the draft of this number
abbrev pub without_draft : ℕ → Tables → Tables
without_draft number t = record t { draft = filter (λ r. not (r.no == number)) t.draft }

-- without the row of any draft
abbrev pub no_drafts : Tables → Tables
no_drafts t = record t { draft = [] }

-- with one more place of a draft's exam
abbrev pub with_slot : SlotRow → Tables → Tables
with_slot row t = record t { slot = row ∷ t.slot }

-- with these places, added one after another
abbrev pub with_slots : List SlotRow → Tables → Tables
with_slots rows t = record t { slot = reverse rows ++ t.slot }

-- without the place of this exam in this draft
abbrev pub without_slot : ℕ → ℕ → Tables → Tables
without_slot draft exam t =
    record t { slot = filter (λ r. not ((r.draft == draft) && (r.exam == exam))) t.slot }

-- without any place of this draft
abbrev pub without_slots : ℕ → Tables → Tables
without_slots draft t = record t { slot = filter (λ r. not (r.draft == draft)) t.slot }

-- with one more published place
abbrev pub with_placement : PlacedRow → Tables → Tables
with_placement row t = record t { placed = row ∷ t.placed }

-- without the published place of this exam
abbrev pub without_placement : ℕ → Tables → Tables
without_placement exam t = record t { placed = filter (λ r. not (r.exam == exam)) t.placed }

-- with one more seat
abbrev pub with_seat : SeatRow → Tables → Tables
with_seat row t = record t { seat = row ∷ t.seat }

-- without this student's seat in this exam
abbrev pub without_seat : ℕ → ℕ → Tables → Tables
without_seat student exam t =
    record t { seat = filter (λ r. not ((r.student == student) && (r.exam == exam))) t.seat }

-- with one more student's share
abbrev pub with_student_share : StudentShareRow → Tables → Tables
with_student_share row t = record t { share_student = row ∷ t.share_student }

-- without this student's share
abbrev pub without_student_share : ℕ → Tables → Tables
without_student_share student t =
    record t { share_student = filter (λ r. not (r.student == student)) t.share_student }

-- with one more share of an exam, a period or a room
abbrev pub with_part_share : PartShareRow → Tables → Tables
with_part_share row t = record t { share_part = row ∷ t.share_part }

-- without any share of an exam, a period or a room
abbrev pub no_part_shares : Tables → Tables
no_part_shares t = record t { share_part = [] }

-- with one more batch
abbrev pub with_batch : Batch → Tables → Tables
with_batch row t = record t { batch = row ∷ t.batch }

-- ---- a query over two tables

-- the published placements of the exams that a student is enrolled in
abbrev pub placed_of : ℕ → Tables → List PlacedRow
placed_of student t =
    flat_map (λ e. filter (λ p. p.exam == e.exam) t.placed)
    (filter (λ e. e.student == student) t.enrol)
