-- The effect of a reader on a connection to a database with the tables.
use Rattle.std.specs.Prelude.{◌≡◌, ◌⊎◌, false, ℕ, IsTrue, IfOk, List, OnErr, OnOk, Result}
use Rattle.sqlite.specs.declared.error.Error.{Error}
use Rattle.sqlite.specs.Given.{IsPlain}
use Rattle.sqlite.specs.Held.{Held, state}
use Rattle.sqlite.specs.Listing.{understood}
use Rattle.sqlite.specs.State.{State, HasCleanDisk, IsUnchanged, Survives}
use Rattle.sqlite.specs.Store.{Ghosts}
use Rattle.office_tables.specs.Tables.{office_schema, Tables}
use Rattle.office_tables.specs.TablesHeld.{HoldsTablesIn}
use Rattle.office_tables.specs.declared.version.Version.{Version}
use Rattle.office_tables.specs.declared.version.Version.TheVariants.{Two}

-- the database is unchanged, or as the last commit left it
pub record Keeps (old new : State) : Type 0 where
  pub was_open : IsTrue new.is_open → IsTrue old.is_open
  pub now : IsTrue new.is_open → (new.now ≡ old.now) ⊎ (new.now ≡ old.committed)
  pub committed : IsTrue new.is_open → new.committed ≡ old.committed
  pub mode : old.in_transaction ≡ false → new.in_transaction ≡ false

-- on a clean disk, a connection that answers `Ok` was open
abbrev pub AnswersOpen : {S X E : Type 0} → Ghosts S → Held S → Held S → Result X E → Type 0
AnswersOpen store old new result =
    HasCleanDisk (state store new) → OnOk result (IsTrue (state store old).is_open)

-- on a clean disk, a connection that is open afterwards was open before
abbrev pub OpensNone : {S : Type 0} → Ghosts S → Held S → Held S → Type 0
OpensNone store old new =
    HasCleanDisk (state store new)
    → IsTrue (state store new).is_open → IsTrue (state store old).is_open

-- on a clean disk, if the database has the tables of this version, the value of an `Ok` has this
-- relation to their rows
abbrev pub ReadsIn : {S X : Type 0} → Version → Ghosts S → (Tables → X → Type 0)
    → Held S → Held S → Result X Error → Type 0
ReadsIn version store is old new result =
    HasCleanDisk (state store new) → (t : Tables) → HoldsTablesIn version (state store old).now t
    → IfOk result (is t)

-- likewise, an `Ok` leaves everything unchanged
abbrev pub LeavesAllIn : {S X E : Type 0} → Version → Ghosts S
    → Held S → Held S → Result X E → Type 0
LeavesAllIn version store old new result =
    HasCleanDisk (state store new) → (t : Tables) → HoldsTablesIn version (state store old).now t
    → OnOk result (IsUnchanged (state store old) (state store new))

-- likewise, whatever the result, the database is unchanged, or as the last commit left it
abbrev pub LeavesCommittedIn : {S : Type 0} → Version → Ghosts S → Held S → Held S → Type 0
LeavesCommittedIn version store old new =
    HasCleanDisk (state store new) → (t : Tables) → HoldsTablesIn version (state store old).now t
    → Keeps (state store old) (state store new)

-- in version 2, the value of an `Ok` has this relation to the rows of the tables
abbrev pub Reads : {S X : Type 0} → Ghosts S → (Tables → X → Type 0)
    → Held S → Held S → Result X Error → Type 0
Reads = ReadsIn Two

-- what a reader of tables of this version leaves: an `Ok` leaves everything unchanged, an `Err` the
-- database as it was or as the last commit left it; a later opening may find only what it might have
-- found before
pub record LeavesTablesIn {S X E : Type 0} (version : Version) (store : Ghosts S) (old new : Held S)
    (result : Result X E) : Type 0 where
  pub open_on_ok : AnswersOpen store old new result
  pub was_open : OpensNone store old new
  pub same : LeavesAllIn version store old new result
  pub kept : LeavesCommittedIn version store old new
  pub mode : old.in_transaction ≡ false → new.in_transaction ≡ false
  pub survives : Survives (state store old) (state store new) (λ _. ⊥)

-- what a reader of tables of version 2 leaves
abbrev pub LeavesTables : {S X : Type 0} → Ghosts S → Held S → Held S → Result X Error → Type 0
LeavesTables = LeavesTablesIn Two

-- what a look at the file leaves: what a reader of its tables leaves, and, whatever the tables are, an
-- `Err` the database as it was or as the last commit left it
pub record LeavesLooked {S X : Type 0} (store : Ghosts S) (old new : Held S) (result : Result X Error)
    : Type 0 where
  pub tables : LeavesTables store old new result
  pub failed : HasCleanDisk (state store new)
      → OnErr result (Keeps (state store old) (state store new))

-- what readers leave, one after another or none at all, if the file is as they expect
pub record LeavesFile {S X E : Type 0} (Expected : Type 0) (store : Ghosts S) (old new : Held S)
    (result : Result X E) : Type 0 where
  pub same : HasCleanDisk (state store new) → Expected
      → OnOk result ((new ≡ old) ⊎ IsUnchanged (state store old) (state store new))
  pub kept : HasCleanDisk (state store new) → Expected → Keeps (state store old) (state store new)
  pub mode : old.in_transaction ≡ false → new.in_transaction ≡ false
  pub survives : Survives (state store old) (state store new) (λ _. ⊥)

-- what a query leaves; `same`, `kept` and `survives` are about a text that only reads
pub record LeavesIfPlain {S X : Type 0} (sql : List ℕ) (store : Ghosts S) (old new : Held S)
    (result : Result X Error) : Type 0 where
  pub open_on_ok : AnswersOpen store old new result
  pub was_open : OpensNone store old new
  pub same : HasCleanDisk (state store new)
      → IsPlain (understood (state store old).now.schema sql)
      → OnOk result (IsUnchanged (state store old) (state store new))
  pub kept : HasCleanDisk (state store new)
      → IsPlain (understood (state store old).now.schema sql)
      → Keeps (state store old) (state store new)
  pub mode : old.in_transaction ≡ false → new.in_transaction ≡ false
  pub survives : Survives (state store old) (state store new)
      (λ _. IsPlain (understood office_schema sql) → ⊥)
