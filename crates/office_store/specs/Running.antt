-- What a call does to the office that its file represents.
use Rattle.std.specs.Prelude.{◌≡◌, IsTrue, OnErr, Result, Ok, Err}
use Rattle.sqlite.specs.Held.{Held, state}
use Rattle.sqlite.specs.State.{State, HasCleanDisk}
use Rattle.sqlite.specs.Store.{Ghosts}
use Rattle.office_model.specs.Commands.{CommandResult}
use Rattle.office_model.specs.Office.{OfficeState}
use Rattle.office_records.specs.Representation.{RepresentsOffice}
use Rattle.office_model.specs.declared.fault.StoreFault.{StoreFault}
use Rattle.office_model.specs.declared.fault.StoreFault.TheVariants.{Store, BadSchema}
use Rattle.office_store.specs.Memory.{IsMemoryOf}
use Rattle.office_store.specs.declared.memory.OfficeMemory.{OfficeMemory}

-- while the store is open, its tables represent this office
abbrev pub Represents : State → OfficeState → Type 0
Represents s office = IsTrue s.is_open → RepresentsOffice s.now office

-- the command's own refusal, or a failed statement; an office that was opened never answers
-- BadSchema
abbrev pub IsFault : {A : Type 0} → CommandResult A → StoreFault → Type 0
IsFault gives Store = Unit {0}
IsFault gives BadSchema = ⊥
IsFault gives fault = gives ≡ Err fault

-- the call returned the command's value and the tables represent the new office, or it was refused
-- and they represent the old one
abbrev pub CommandOutcome : {A : Type 0} → CommandResult A → OfficeState → (OfficeState → Type 0)
    → Result A StoreFault → Type 0
CommandOutcome gives old Stays (Ok x) = (new : OfficeState) × (gives ≡ Ok (x, new)) × Stays new
CommandOutcome gives old Stays (Err fault) = IsFault gives fault × Stays old

-- the outcome of a changing command, if the disk returns what was written
abbrev pub CommandRan : {S A : Type 0} → Ghosts S → (OfficeState → CommandResult A) → Held S
    → Held S
    → Result A StoreFault → Type 0
CommandRan store command old new result =
    HasCleanDisk (state store new) → (office : OfficeState) → Represents (state store old) office
    → CommandOutcome (command office) office (Represents (state store new)) result

-- the call returned this value, or a statement failed
abbrev pub ReturnsValue : {A : Type 0} → A → Result A StoreFault → Type 0
ReturnsValue expected (Ok x) = x ≡ expected
ReturnsValue expected (Err fault) = fault ≡ Store

-- a call that only reads returned this value, or a statement failed; the office stays
abbrev pub QueryOutcome : {A : Type 0} → A → OfficeState → (OfficeState → Type 0)
    → Result A StoreFault → Type 0
QueryOutcome expected office Stays (Ok x) = (x ≡ expected) × Stays office
QueryOutcome expected office Stays (Err fault) = (fault ≡ Store) × Stays office

-- the same, if the disk returns what was written
abbrev pub QueryReturned : {S A : Type 0} → Ghosts S → (OfficeState → A) → Held S → Held S
    → Result A StoreFault → Type 0
QueryReturned store expected old new result =
    HasCleanDisk (state store new) → (office : OfficeState) → Represents (state store old) office
    → QueryOutcome (expected office) office (Represents (state store new)) result

-- a call ran on an office: a disk that is clean after the call was clean before it, and then this
-- holds for each office that the file represented before the call
pub record CallRan {S : Type 0} (store : Ghosts S) (old new : Held S)
    (Then : OfficeState → Type 0) : Type 0 where
  pub clean : HasCleanDisk (state store new) → HasCleanDisk (state store old)
  pub runs : HasCleanDisk (state store new) → (office : OfficeState)
      → Represents (state store old) office → Then office

-- ---- what is kept in memory

-- over a clean disk, while it is open, the file represents an office of which this is in memory
abbrev pub MatchesMemory : State → OfficeMemory → Type 0
MatchesMemory s memory =
    HasCleanDisk s → IsTrue s.is_open
    → (office : OfficeState) × RepresentsOffice s.now office × IsMemoryOf office memory

-- ---- the file after a call

-- if the store is open now, it was open before and its database is unchanged
abbrev pub StateUnchanged : State → State → Type 0
StateUnchanged old new = IsTrue new.is_open → IsTrue old.is_open × (new.now ≡ old.now)

-- if the disk returns what was written, a call has changed nothing
pub record OfficeUnchanged {S : Type 0} (store : Ghosts S) (old new : Held S) : Type 0 where
  pub clean : HasCleanDisk (state store new) → HasCleanDisk (state store old)
  pub unchanged : HasCleanDisk (state store new)
      → StateUnchanged (state store old) (state store new)

-- if the disk returns what was written, a refusal has changed nothing
abbrev pub StaysOnErr : {S A : Type 0} → Ghosts S → Held S → Held S → Result A StoreFault → Type 0
StaysOnErr store old new result =
    HasCleanDisk (state store new) → OnErr result
    (StateUnchanged (state store old) (state store new))

-- the store is open, and all that was written is committed
abbrev pub IsCommitted : State → Type 0
IsCommitted s = IsTrue s.is_open × (s.now ≡ s.committed)

-- all that was written is committed, if the store is open
abbrev pub IsAtRest : State → Type 0
IsAtRest s = IsTrue s.is_open → s.now ≡ s.committed
