-- The rows found in the tables of an existing file.
use Rattle.std.specs.Prelude.{◌≡◌, List, map, Option, Some, None, Result, Ok, Err}
use Rattle.sqlite.specs.declared.error.Error.{Error}
use Rattle.sqlite.specs.Effect.{Database}
use Rattle.sqlite.specs.Held.{Held, state}
use Rattle.sqlite.specs.State.{HasCleanDisk, IsUnchanged}
use Rattle.sqlite.specs.Store.{Ghosts}
use Rattle.office_tables.specs.declared.adopting.AdoptFault.{AdoptFault}
use Rattle.office_tables.specs.declared.adopting.AdoptFault.TheVariants.{Foreign, Failed}
use Rattle.office_tables.specs.declared.tables.Found.{Found}
use Rattle.office_tables.specs.declared.tables.share_student.StudentShareRow.{StudentShareRow}
use Rattle.office_tables.specs.declared.tables.draft.DraftRow.{DraftRow}
use Rattle.office_tables.specs.declared.version.Version.{Version}
use Rattle.office_tables.specs.Tables.Batches.{counts_of, Batch}
use Rattle.office_tables.specs.Tables.Draft.{draft_columns, night_draft_columns}
use Rattle.office_tables.specs.Finders.{HasTables, ReadEffect}
use Rattle.office_tables.specs.Joining.{HaveRows}
use Rattle.office_tables.specs.Tables.ShareStudent.{share_student_columns, night_share_columns}
use Rattle.office_tables.specs.TablesHeld.{HoldsTablesIn}
use Rattle.office_tables.specs.Tables.{tables_of, AreReadable, Tables}

-- the database doesn't hold the rows of an office in this version
abbrev pub IsForeignIn : Version → Database → Type 0
IsForeignIn version db = (t : Tables) → AreReadable t → HoldsTablesIn version db t → ⊥

-- it doesn't hold them in either version
abbrev pub IsForeign : Database → Type 0
IsForeign db = (version : Version) → IsForeignIn version db

-- the database's drafts, with their amounts over night
abbrev pub HaveDrafts : Version → Database → List DraftRow → Type 0
HaveDrafts version db =
    HaveRows version draft_columns night_draft_columns (λ (r : DraftRow). r.night) (db.trees 4)
    (db.trees 15)

-- the database's shares of students, with their amounts over night
abbrev pub HaveShares : Version → Database → List StudentShareRow → Type 0
HaveShares version db =
    HaveRows version share_student_columns night_share_columns
    (λ (r : StudentShareRow). r.night) (db.trees 11) (db.trees 16)

-- `Ok`: the database holds the rows that were found, and batches with these counts. `Foreign`: it
-- doesn't hold the rows of an office
abbrev pub IsAdopted : Database → Result Found AdoptFault → Type 0
IsAdopted db (Ok found) =
    (batches : List Batch) × (map counts_of batches ≡ found.batches.items)
    × HoldsTablesIn found.version db (tables_of found batches)
IsAdopted db (Err Foreign) = IsForeign db
IsAdopted db (Err Failed) = Unit {0}

-- what a reader gave; `Foreign` if it found no rows, `Failed` if it failed
abbrev pub found_or_fault : {X : Type 0} → Result (Option X) Error → Result X AdoptFault
found_or_fault (Ok (Some found)) = Ok found
found_or_fault (Ok None) = Err Foreign
found_or_fault (Err e) = Err Failed

-- this holds, or the result is `Failed`
abbrev pub HoldsUnlessFailed : Type 0 → Result Found AdoptFault → Type 0
HoldsUnlessFailed P (Ok found) = P
HoldsUnlessFailed P (Err Foreign) = P
HoldsUnlessFailed P (Err Failed) = Unit {0}

-- a reader of all tables of a file of this version: what it finds, and its effect
pub record AdoptsRows {S : Type 0} (version : Version) (store : Ghosts S) (old new : Held S)
    (result : Result Found AdoptFault) : Type 0 where
  pub found : HasCleanDisk (state store new) → HasTables version (state store old)
      → IsAdopted (state store old).now result
  pub same : HasCleanDisk (state store new) → HasTables version (state store old)
      → HoldsUnlessFailed (IsUnchanged (state store old) (state store new)) result
  pub looks : ReadEffect version (state store old) (state store new)
