-- The office that a database represents when it is opened.
use Rattle.std.specs.Prelude.{◌≡◌, ◌⊎◌, List, None, map}
use Rattle.sqlite.specs.Effect.{Database}
use Rattle.office_tables.specs.Tables.{tables_of}
use Rattle.office_tables.specs.Tables.Batches.{counts_of, Batch}
use Rattle.office_tables.specs.Schema.{no_schema}
use Rattle.office_tables.specs.TablesHeld.{HoldsTablesIn}
use Rattle.office_tables.specs.declared.tables.Found.{Found}
use Rattle.office_tables.specs.declared.version.Version.{Version}
use Rattle.office_tables.specs.declared.version.Version.TheVariants.{One, Two}
use Rattle.office_model.specs.Office.{OfficeState}
use Rattle.office_records.specs.Memory.{HasNoNightWeight, Memory, memory_of}
use Rattle.office_records.specs.Representation.{RepresentsOffice, RepresentsOfficeIn}
use Rattle.office_store.specs.Memory.{IsMemoryOf}
use Rattle.office_store.specs.declared.memory.OfficeMemory.{OfficeMemory}

-- in version 1 the weight of exams over night is 0
abbrev pub HasNoNightWeightIn : Version → Memory → Type 0
HasNoNightWeightIn One memory = HasNoNightWeight memory
HasNoNightWeightIn Two memory = Unit {0}

-- the database represents this office in one of the two versions
abbrev pub HoldsOffice : Database → OfficeState → Type 0
HoldsOffice db office =
    (version : Version) × RepresentsOfficeIn version db office
    × HasNoNightWeightIn version (memory_of office)

-- the database represents this office; one with no table represents the office before its load
abbrev pub IsOfficeOf : Database → OfficeState → Type 0
IsOfficeOf db office = ((db.schema ≡ no_schema) × (office ≡ None)) ⊎ HoldsOffice db office

-- the tables that were found, with the bytes of their batches, represent an office, and this is its
-- memory
pub record IsFoundOffice (db : Database) (found : Found) (memory : OfficeMemory) : Type 0 where
  pub batches : List Batch
  pub counted : map counts_of batches ≡ found.batches.items
  pub tables : HoldsTablesIn found.version db (tables_of found batches)
  pub office : OfficeState
  pub kept : RepresentsOfficeIn found.version db office
  pub weighs : HasNoNightWeightIn found.version (memory_of office)
  pub in_memory : IsMemoryOf office memory

-- the old database represented an office, and the new one represents it in version 2
pub record DatabaseUpgraded (old new : Database) : Type 0 where
  pub office : OfficeState
  pub stood : HoldsOffice old office
  pub represents : (there : OfficeState) → HoldsOffice old there → RepresentsOffice new there
