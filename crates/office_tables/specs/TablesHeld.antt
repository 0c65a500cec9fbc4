-- When a database has the tables of an office, and which rows they hold.
use Rattle.std.specs.Prelude.{◌≡◌}
use Rattle.sqlite.specs.Effect.{Database}
use Rattle.office_tables.specs.Tables.{columns_in, schema_before, Tables}
use Rattle.office_tables.specs.declared.tables.draft.DraftRow.{DraftRow}
use Rattle.office_tables.specs.declared.tables.share_student.StudentShareRow.{StudentShareRow}
use Rattle.office_tables.specs.declared.version.Version.{Version}
use Rattle.office_tables.specs.declared.version.Version.TheVariants.{One, Two}
use Rattle.office_tables.specs.Tables.Draft.{night_draft_columns}
use Rattle.office_tables.specs.Tables.ShareStudent.{night_share_columns}
use Rattle.office_tables.specs.Nights.{HoldsNights}
use Rattle.office_tables.specs.Stored.{HoldAll}
use Rattle.office_tables.specs.Versions.{schema_of}

-- the database has the tables of this version, and they hold these rows; the amounts over night of
-- drafts and students are in the last two tables, and are 0 in version 1
pub record HoldsTablesIn (version : Version) (db : Database) (t : Tables) : Type 0 where
  pub schema : db.schema ≡ schema_of version
  pub rows : HoldAll schema_before.tables (columns_in version t) db.trees
  pub night_draft :
      HoldsNights version night_draft_columns (λ (r : DraftRow). r.night) t.draft (db.trees 15)
  pub night_share :
      HoldsNights version night_share_columns (λ (r : StudentShareRow). r.night) t.share_student
      (db.trees 16)

-- the database has the tables of either version, with any rows
abbrev pub HoldsSomeTables : Database → Type 0
HoldsSomeTables db = (version : Version) × (t : Tables) × HoldsTablesIn version db t

-- version 2: the database has the twelve tables, and they hold these rows
abbrev pub HoldsTables : Database → Tables → Type 0
HoldsTables = HoldsTablesIn Two

-- version 1: the database has ten tables, they hold these rows, and each amount over night is 0
abbrev pub HoldsOldTables : Database → Tables → Type 0
HoldsOldTables = HoldsTablesIn One
