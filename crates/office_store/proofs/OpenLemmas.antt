-- The office that a database represents when it is opened, by whether it has a table.
use Rattle.std.proofs.Common.{◌≡◌, ◌∙◌, ◌⊎◌, None, ap, arith, inl, inr, length, sym}
use Rattle.sqlite.specs.Effect.{Database}
use Rattle.sqlite_schema.specs.declared.schema.Schema.{Schema}
use Rattle.office_tables.specs.Schema.{no_schema}
use Rattle.office_tables.specs.Tables.{office_schema, schema_before}
use Rattle.office_tables.specs.Versions.{schema_of}
use Rattle.office_tables.specs.declared.version.Version.{Version}
use Rattle.office_tables.specs.declared.version.Version.TheVariants.{One, Two}
use Rattle.office_model.specs.Office.{OfficeState}
use Rattle.office_records.specs.Representation.{RepresentsOffice}
use Rattle.office_store.specs.Faults.{IsOfDatabase}
use Rattle.office_store.specs.Opening.{HoldsOffice, IsOfficeOf}
use Rattle.office_model.specs.declared.fault.StoreFault.{StoreFault}
use Rattle.office_model.specs.declared.fault.StoreFault.TheVariants.{BadSchema, Store}

-- an office's schema has a table
pub has_some : (version : Version) → schema_of version ≡ no_schema → ⊥
has_some One bare =
    let none : length schema_before.tables ≡ length no_schema.tables
    = ap (λ (s : Schema). length s.tables) bare in
    omega (none, arith)
has_some Two bare =
    let none : length office_schema.tables ≡ length no_schema.tables
    = ap (λ (s : Schema). length s.tables) bare in
    omega (none, arith)

-- without a table, the database represents only the office before its load
pub before_load : (db : Database) (there : OfficeState) → db.schema ≡ no_schema
    → IsOfficeOf db there → there ≡ None
before_load db there bare (inl is) = is.1
before_load db there bare (inr held) =
    absurd (has_some held.0 (sym held.1.tables.schema ∙ bare))

-- tables in version 2 are those of one of the two kinds
pub kept_holds : (db : Database) (there : OfficeState) → RepresentsOffice db there
    → HoldsOffice db there
kept_holds db there kept = (Two, kept, tt)

-- with tables, the database represents it
pub holds : (db : Database) (there : OfficeState) → (db.schema ≡ no_schema → ⊥)
    → IsOfficeOf db there → HoldsOffice db there
holds db there tables (inl is) = absurd (tables is.0)
holds db there tables (inr held) = held

-- a fault of the database is `Store` or `BadSchema`
pub or_none : {fault : StoreFault} {P : Type 0} → IsOfDatabase fault → (fault ≡ BadSchema → P)
    → (fault ≡ Store) ⊎ P
or_none (inl is) when_bad = inl is
or_none (inr wrong) when_bad = inr (when_bad wrong)
