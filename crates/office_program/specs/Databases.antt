-- What is known of the database at a path, and what a task makes of it.
use Rattle.std.specs.Prelude.{◌≡◌, ◌≢◌, ◌⊎◌, Bool, IsTrue, List, None, Option, Result, Ok, Err, Some}
use Rattle.std.specs.Prelude.{ℕ}
use Rattle.sqlite.specs.Held.{Held, state}
use Rattle.sqlite.specs.State.{HasCleanDisk, Survives}
use Rattle.sqlite.specs.Store.{Ghosts}
use Rattle.sqlite.specs.declared.error.Error.{Error}
use Rattle.office_messages.specs.Visits.{Visit}
use Rattle.office_files.specs.declared.inputs.InputFault.{InputFault}
use Rattle.office_model.specs.Office.{OfficeState}
use Rattle.office_model.specs.declared.fault.StoreFault.TheVariants.{BadSchema}
use Rattle.office_store.specs.Opening.{HoldsOffice, IsOfficeOf}
use Rattle.office_program.specs.Export.{Exports, IfRead, RefusesExport}
use Rattle.office_program.specs.FaultLines.{fault_line, input_line, open_line}
use Rattle.office_program.specs.Foreign.{LeavesIfForeign, OfOffice}
use Rattle.office_program.specs.Load.{IfRefused, IfStored, Loads, MayBringUp, MayLoad, MayUpgrade}
use Rattle.office_program.specs.Load.{RefusesLoad}
use Rattle.office_program.specs.Serve.{IsOpened, IsStoreShut, IsUnopened, OfficeServes, ServesTerms}
use Rattle.office_program.specs.Sources.{Known}
use Rattle.office_program.specs.TaskFaults.{IsTextCause, export_line, load_line}
use Rattle.office_program.specs.declared.ending.Ending.{Ending}
use Rattle.office_program.specs.declared.faults.ProgramFault.{ProgramFault}
use Rattle.office_program.specs.declared.exporting.ExportFault.{ExportFault}
use Rattle.office_program.specs.declared.faults.ProgramFault.TheVariants.{CannotListen}
use Rattle.office_program.specs.declared.faults.ProgramFault.TheVariants as fault
use Rattle.office_program.specs.declared.loading.LoadFault.{LoadFault}
use Rattle.office_program.specs.declared.words.Terms.{Terms}

-- what is known of the database at a path: nothing; the error with which it can't be opened; or its
-- connection
abbrev pub KnownBase : Type 0 → Type 0
KnownBase C = Option (Result C Error)

-- the database can be opened, and this is its connection, as far as is known
abbrev pub IsAt : {C : Type 0} → KnownBase C → C → Type 0
IsAt None conn = Unit {0}
IsAt (Some (Err error)) conn = ⊥
IsAt (Some (Ok known)) conn = known ≡ conn

-- the database can't be opened, with this error, as far as is known
abbrev pub FailsToOpenBy : {C : Type 0} → KnownBase C → Error → Type 0
FailsToOpenBy None error = Unit {0}
FailsToOpenBy (Some (Err known)) error = known ≡ error
FailsToOpenBy (Some (Ok known)) error = ⊥

-- all databases are as they were, except the one at this path
abbrev pub KeepsOthers : {C : Type 0} → List ℕ → (old new : List ℕ → KnownBase C) → Type 0
KeepsOthers database old new = (other : List ℕ) → other ≢ database → new other ≡ old other

-- the database at a path was opened, and its connection was given back; of the two states this
-- holds, and all other databases are as they were
pub record UsesDatabase {C : Type 0} (old new : List ℕ → KnownBase C) (database : List ℕ)
    (R : C → C → Type 0) : Type 0 where
  pub before : C
  pub after : C
  pub opened : IsAt (old database) before
  pub given_back : IsAt (new database) after
  pub others : KeepsOthers database old new
  pub holds : R before after

-- the database at a path could not be opened, and the line says why; all databases are as they were
pub record FailsToOpen {C : Type 0} (old new : List ℕ → KnownBase C) (database : List ℕ)
    (shown : ProgramFault) : Type 0 where
  pub of : Error
  pub cause : FailsToOpenBy (old database) of
  pub line : fault_line shown ≡ open_line of
  pub kept : new ≡ old

-- nothing is known of the database at a path, whose file is empty, as the line says; all databases
-- are as they were
pub record IsEmpty {C : Type 0} (old new : List ℕ → KnownBase C) (database : List ℕ)
    (shown : ProgramFault) : Type 0 where
  pub unknown : old database ≡ None
  pub line : fault_line shown ≡ fault_line (fault.Store BadSchema)
  pub kept : new ≡ old

-- the text of an instance can't be taken, as the fault says, and no database was opened
pub record IsUnread {C : Type 0} (old new : List ℕ → KnownBase C) (instance : List ℕ)
    (file : Known) (shown : ProgramFault) : Type 0 where
  pub of : InputFault
  pub cause : IsTextCause file of
  pub line : fault_line shown ≡ input_line instance of
  pub kept : new ≡ old

module _ {S : Type 0} (store : Ghosts S) where
  -- assuming the disk returns what was written: the text is loaded into the office that the
  -- database held, the line with the counts is printed, and all writes are committed
  abbrev pub LoadsIn : List ℕ → (printed_old printed_new : Option (List ℕ)) → Held S → Held S
      → Type 0
  LoadsIn text printed_old printed_new before after = HasCleanDisk (state store after)
      → OfOffice (IsOfficeOf (state store before).now)
      (λ there. Loads text there (state store after) printed_old printed_new)

  -- assuming the same: the publication of the office in the database is printed, and the office
  -- stays
  abbrev pub ExportsIn : (printed_old printed_new : Option (List ℕ)) → Held S → Held S → Type 0
  ExportsIn printed_old printed_new before after = HasCleanDisk (state store after)
      → OfOffice (HoldsOffice (state store before).now)
      (λ there. Exports there (state store after) printed_old printed_new)

  -- the office of a database was opened, and served as many of these clients as the terms say, or
  -- the fault says why not
  pub record ServesOpened (AreTheirs : Bool → List Visit → Type 0) (terms : Terms)
      (errors_old errors_new : Option (List ℕ)) (outcome : Result Ending ProgramFault)
      (before after : Held S) : Type 0 where
    pub found : Held S
    pub opened : IsOpened store before found
    pub clients : ServesTerms AreTheirs (OfficeServes store found after) (IsStoreShut store after)
        terms outcome errors_old errors_new

  -- the same; or the office could not be opened, and no port was listened on
  abbrev pub ServesIn : (IsUnheard : Type 0) → (AreTheirs : Bool → List Visit → Type 0) → Terms
      → (errors_old errors_new : Option (List ℕ)) → Result Ending ProgramFault
      → (before after : Held S) → Type 0
  ServesIn IsUnheard AreTheirs terms errors_old errors_new (Ok ending) before after =
      ServesOpened AreTheirs terms errors_old errors_new (Ok ending) before after
  ServesIn IsUnheard AreTheirs terms errors_old errors_new (Err shown) before after =
      (IsUnopened store before after shown × IsUnheard × (errors_new ≡ errors_old))
      ⊎ ServesOpened AreTheirs terms errors_old errors_new (Err shown) before after

  -- the database at a path was opened, and given back after its office served the clients of the
  -- port of the terms, or after it could not be opened; or the fault is that of the database, and
  -- no port was listened on
  abbrev pub ServesNamed : (old new : List ℕ → KnownBase (Held S)) → (IsUnheard : Type 0)
      → (ℕ → Bool → List Visit → Type 0) → (errors_old errors_new : Option (List ℕ))
      → Result Ending ProgramFault → List ℕ → Terms → Type 0
  ServesNamed old new IsUnheard AreOf errors_old errors_new (Ok ending) database terms =
      UsesDatabase old new database
      (ServesIn IsUnheard (AreOf terms.port) terms errors_old errors_new (Ok ending))
  ServesNamed old new IsUnheard AreOf errors_old errors_new (Err shown) database terms =
      (FailsToOpen old new database shown × IsUnheard × (errors_new ≡ errors_old))
      ⊎ UsesDatabase old new database
      (ServesIn IsUnheard (AreOf terms.port) terms errors_old errors_new (Err shown))

  -- a load of the text into the office of a database failed so. Assuming the disk returns what was
  -- written: the office refused it, or a statement failed, and the office is as it was if nothing
  -- was uncommitted; or only the line isn't written. A later opening may find what it might have
  -- found before, what opening makes of the tables, or the session of a text that isn't refused
  pub record FailsToLoad (text : List ℕ) (shown : ProgramFault) (before after : Held S)
      : Type 0 where
    pub of : LoadFault
    pub line : fault_line shown ≡ load_line of
    pub refused : HasCleanDisk (state store after)
        → (there : OfficeState) → IsOfficeOf (state store before).now there
        → RefusesLoad text there (state store after) of
    pub stays : HasCleanDisk (state store after)
        → ((state store before).now ≡ (state store before).committed)
        → (there : OfficeState) → IsOfficeOf (state store before).now there
        → IfRefused (IsTrue (state store after).is_open
        → IsOfficeOf (state store after).now there) of
    pub foreign : IfStored of (LeavesIfForeign store IsOfficeOf before after)
    pub survives : Survives (state store before) (state store after) (λ found.
        MayBringUp (state store before) found ⊎ MayLoad {A = Unit {0}} text (Err of) found)

  -- a load of the text into the database at a path failed: it could not be opened; or it was
  -- opened, and given back after the office's fault
  abbrev pub LeavesUnloaded : (old new : List ℕ → KnownBase (Held S)) → (database : List ℕ)
      → (text : List ℕ) → ProgramFault → Type 0
  LeavesUnloaded old new database text shown =
      FailsToOpen old new database shown
      ⊎ UsesDatabase old new database (FailsToLoad text shown)

  -- an export of a database's office failed so; the rest is as for a load that failed, and opening
  -- can only have made the tables of version 1 those of version 2
  pub record FailsToExport (shown : ProgramFault) (before after : Held S) : Type 0 where
    pub of : ExportFault
    pub line : fault_line shown ≡ export_line of
    pub refused : HasCleanDisk (state store after)
        → (there : OfficeState) → HoldsOffice (state store before).now there
        → RefusesExport there of
    pub stays : HasCleanDisk (state store after)
        → ((state store before).now ≡ (state store before).committed)
        → (there : OfficeState) → HoldsOffice (state store before).now there
        → IsTrue (state store after).is_open → HoldsOffice (state store after).now there
    pub foreign : IfRead of (LeavesIfForeign store HoldsOffice before after)
    pub survives : Survives (state store before) (state store after)
        (MayUpgrade (state store before))

  -- an export of the database at a path failed: it could not be opened, or its file was empty; or
  -- it was opened, and given back after the fault
  abbrev pub LeavesUnexported : (old new : List ℕ → KnownBase (Held S))
      → (database : List ℕ) → ProgramFault → Type 0
  LeavesUnexported old new database shown =
      FailsToOpen old new database shown
      ⊎ (IsEmpty old new database shown ⊎ UsesDatabase old new database (FailsToExport shown))
