-- What a migration makes of a database.
use Rattle.std.specs.Prelude.{◌≡◌, List, OnErr, Result}
use Rattle.sqlite.specs.Effect.{Database}
use Rattle.sqlite.specs.Held.{Held}
use Rattle.sqlite.specs.Store.{Ghosts}
use Rattle.office_tables.specs.Tables.{tables_of}
use Rattle.office_tables.specs.Alterations.{IsWritten, TransactionRan}
use Rattle.office_tables.specs.Tables.Batches.{Batch}
use Rattle.office_tables.specs.TablesHeld.{HoldsOldTables}
use Rattle.office_tables.specs.declared.tables.Found.{Found}
use Rattle.office_tables.specs.declared.version.Version.{Version}
use Rattle.office_tables.specs.declared.version.Version.TheVariants.{One, Two}

-- the rows found, with any batches, were in tables of version 1 and are in tables of version 2
abbrev pub RowsMigrated : Found → Database → Database → Type 0
RowsMigrated found old new =
    (batches : List Batch) → HoldsOldTables old (tables_of found batches)
    → IsWritten (tables_of found batches) old new

-- tables of version 1 are migrated in a transaction; those of version 2 are left as they are
abbrev pub Migrated : {S A E : Type 0} → Version → Ghosts S → Found → Held S → Held S
    → Result A E → Type 0
Migrated One store found old new result =
    TransactionRan store (RowsMigrated found) old new result
Migrated Two store found old new result = OnErr result ⊥ × (new ≡ old)
