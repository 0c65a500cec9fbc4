-- What a later opening of the file may find after a call.
use Rattle.std.specs.Prelude.{◌≡◌, ◌⊎◌, IfErr, IsTrue, None, OnErr, OnOk, Result, Ok, Err}
use Rattle.sqlite.specs.Effect.{IsDatabase}
use Rattle.sqlite.specs.Held.{Held, state}
use Rattle.sqlite.specs.State.{HasCleanDisk, State, Survives}
use Rattle.sqlite.specs.Store.{Ghosts}
use Rattle.sqlite_trees.specs.Tree.{Trees}
use Rattle.office_tables.specs.Tables.{schema_before}
use Rattle.office_tables.specs.Alterations.{Undone, found_in}
use Rattle.office_tables.specs.Schema.{no_schema}
use Rattle.office_model.specs.Commands.{CommandResult}
use Rattle.office_model.specs.Office.{OfficeState}
use Rattle.office_model.specs.declared.fault.StoreFault.{StoreFault}
use Rattle.office_model.specs.declared.fault.StoreFault.TheVariants.{Store}
use Rattle.office_records.specs.Representation.{RepresentsOffice}
use Rattle.office_store.specs.Opening.{DatabaseUpgraded}
use Rattle.office_store.specs.Running.{IsCommitted, OfficeUnchanged, StateUnchanged, StaysOnErr}

-- the trees hold the office after this result of a command
abbrev pub HoldsAfter : {A : Type 0} → CommandResult A → Trees → Type 0
HoldsAfter {A} gives found =
    (answer : A) × (next : OfficeState) × (gives ≡ Ok (answer, next))
    × RepresentsOffice (found_in found) next

-- the trees hold the office that the command makes of each one in the open file; they list the
-- office's schema and obey it, so they can be opened
pub record HoldsNext {A : Type 0} (command : OfficeState → CommandResult A) (old : State)
    (found : Trees)
    : Type 0 where
  pub was_open : IsTrue old.is_open
  pub sound : IsDatabase (found_in found)
  pub office : OfficeState
  pub stood : RepresentsOffice old.now office
  pub holds : (there : OfficeState) → RepresentsOffice old.now there
      → HoldsAfter (command there) found

-- what a command may commit unless it is refused with a named fault: the next office
abbrev pub MayCommit : {A : Type 0} → (OfficeState → CommandResult A) → State → Result A StoreFault
    → Trees
    → Type 0
MayCommit command old result found =
    IfErr result (λ e. e ≡ Store) × HoldsNext command old found

-- what a call that only reads leaves: while the database is open it is as it was, on an Ok it is open
-- and all is committed, and a later opening may find only what it might have found before
pub record LeavesUnchanged {S A E : Type 0} (store : Ghosts S) (old new : Held S)
    (result : Result A E) : Type 0 where
  pub clean : HasCleanDisk (state store new) → HasCleanDisk (state store old)
  pub unchanged : HasCleanDisk (state store new)
      → StateUnchanged (state store old) (state store new)
  pub all_committed : HasCleanDisk (state store new) → OnOk result (IsCommitted (state store new))
  pub survives : Survives (state store old) (state store new) (λ _. ⊥)

-- what a question about the store itself leaves, whether it is open or not: all is as it was, and a
-- later opening may find only what it might have found before
pub record LeavesAsItWas {S : Type 0} (store : Ghosts S) (old new : Held S) : Type 0 where
  pub unchanged : OfficeUnchanged store old new
  pub survives : Survives (state store old) (state store new) (λ _. ⊥)

-- what a call that changes the office leaves: on an Err the database is as it was while it is open,
-- on an Ok it is open and all is committed, and a later opening may find what it might have found
-- before, or the next office
pub record LeavesNext {S A : Type 0} (store : Ghosts S) (command : OfficeState → CommandResult A)
    (old new : Held S) (result : Result A StoreFault) : Type 0 where
  pub clean : HasCleanDisk (state store new) → HasCleanDisk (state store old)
  pub unchanged_on_err : StaysOnErr store old new result
  pub all_committed : HasCleanDisk (state store new) → OnOk result (IsCommitted (state store new))
  pub survives : Survives (state store old) (state store new)
      (MayCommit command (state store old) result)

-- the connection of an opened office, or the one that a refusal returns
abbrev pub connection_of : {S : Type 0} → Result (Held S) (StoreFault × Held S) → Held S
connection_of (Ok office) = office
connection_of (Err refused) = refused.1

-- what an opening leaves that may commit such trees: on an Ok the database is open and all is
-- committed, on an Err the tables are as they were; a later opening may find what it might have found
-- before, or such trees
pub record LeavesOpened {S : Type 0} (store : Ghosts S)
    (may : State → Result (Held S) (StoreFault × Held S) → Trees → Type 0) (old : Held S)
    (result : Result (Held S) (StoreFault × Held S)) : Type 0 where
  pub all_committed : HasCleanDisk (state store (connection_of result))
      → OnOk result (IsCommitted (state store (connection_of result)))
  pub undone : OnErr result ((connection_of result ≡ old)
      ⊎ (HasCleanDisk (state store (connection_of result))
      → Undone (state store old) (state store (connection_of result))))
  pub survives : Survives (state store old) (state store (connection_of result))
      (may (state store old) result)

-- what making an office may commit if there was no table, unless it is refused with a named fault:
-- the tables without a session; if the database was open, they can be opened
abbrev pub MayMake : {S : Type 0} → State → Result (Held S) (StoreFault × Held S) → Trees → Type 0
MayMake old result found =
    (old.now.schema ≡ no_schema) × IfErr result (λ refused. refused.0 ≡ Store)
    × RepresentsOffice (found_in found) None
    × (IsTrue old.is_open → IsDatabase (found_in found))

-- what opening an existing office may commit if its tables are of version 1, unless it is refused
-- with a named fault: the same office in version 2, in trees that can be opened
abbrev pub MayMigrate : {S : Type 0} → State → Result (Held S) (StoreFault × Held S) → Trees
    → Type 0
MayMigrate old result found =
    (old.now.schema ≡ schema_before) × IfErr result (λ refused. refused.0 ≡ Store)
    × DatabaseUpgraded old.now (found_in found) × IsDatabase (found_in found)

-- what opening may commit: the tables without a session, or those of version 2
abbrev pub MayOpen : {S : Type 0} → State → Result (Held S) (StoreFault × Held S) → Trees → Type 0
MayOpen old result found = MayMake old result found ⊎ MayMigrate old result found
