-- What a reader finds, and its effect, if only the version of a database's schema is known.
use Rattle.std.specs.Prelude.{◌≡◌, false, List, map, None, Some, Option, Result, Vec, IfOk, OnOk}
use Rattle.std.specs.List.{AllByRecursion}
use Rattle.std.specs.declared.alloc.Global.{Global}
use Rattle.sqlite_value.specs.Order.{Row}
use Rattle.sqlite.specs.declared.error.Error.{Error}
use Rattle.sqlite.specs.Effect.{Database}
use Rattle.sqlite.specs.Held.{Held, state}
use Rattle.sqlite.specs.State.{State, HasCleanDisk, IsLive, IsUnchanged, Survives}
use Rattle.sqlite.specs.Store.{Ghosts}
use Rattle.office_tables.specs.declared.version.Version.{Version}
use Rattle.office_tables.specs.Readers.{Keeps}
use Rattle.office_tables.specs.Stored.{Holds}
use Rattle.office_tables.specs.Versions.{schema_of}

-- the database has the tables of this version, and their rows obey them
pub record HasTables (version : Version) (s : State) : Type 0 where
  pub schema : s.now.schema ≡ schema_of version
  pub live : IsLive s

-- on a clean disk, if the database has the tables, the value of an `Ok` has this relation to it
abbrev pub ReadsValue : {S X : Type 0} → Version → Ghosts S → (Database → X → Type 0)
    → Held S → Held S → Result X Error → Type 0
ReadsValue version store is old new result =
    HasCleanDisk (state store new) → HasTables version (state store old)
    → IfOk result (is (state store old).now)

-- likewise, an `Ok` leaves everything unchanged
abbrev pub ChangesNothing : {S X : Type 0} → Version → Ghosts S → Held S → Held S → Result X Error
    → Type 0
ChangesNothing version store old new result =
    HasCleanDisk (state store new) → HasTables version (state store old)
    → OnOk result (IsUnchanged (state store old) (state store new))

-- the effect, whatever the result
pub record ReadEffect (version : Version) (old new : State) : Type 0 where
  pub kept : HasCleanDisk new → HasTables version old → Keeps old new
  pub mode : old.in_transaction ≡ false → new.in_transaction ≡ false
  pub survives : Survives old new (λ _. HasTables version old → ⊥)

-- a reader that finds: the value of an `Ok`, and the effect
pub record ReadsUnknownFile {S X : Type 0} (version : Version) (store : Ghosts S)
    (is : Database → X → Type 0) (old new : Held S) (result : Result X Error) : Type 0 where
  pub found : ReadsValue version store is old new result
  pub same : ChangesNothing version store old new result
  pub looks : ReadEffect version (state store old) (state store new)

-- `Some`: the table holds the rows found. `None`: it holds no typed rows that fit
abbrev pub IsFound : {X : Type 0} → (X → Type 0) → (X → Row) → (Row → Row) → List Row
    → Option (Vec X Global) → Type 0
IsFound fits row_of show stored (Some found) = Holds show (map row_of found.items) stored
IsFound {X} fits row_of show stored None =
    (rows : List X) → AllByRecursion fits rows → Holds show (map row_of rows) stored → ⊥
