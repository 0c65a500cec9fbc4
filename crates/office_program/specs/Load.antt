-- The effect of `load` on the office that a database represents, and what it prints.
use Rattle.std.specs.Prelude.{◌≡◌, ◌⊎◌, ℕ, ◌++◌, ◌∷◌, [], List, Option, Some, None, Result, Ok, Err, IfErr, IsTrue, OnOk, codes, decimal}
use Rattle.std.specs.Io.KnownBytes.{Appends}
use Rattle.sqlite.specs.Effect.{IsDatabase}
use Rattle.sqlite.specs.Held.{Held}
use Rattle.sqlite.specs.State.{State}
use Rattle.sqlite_trees.specs.Tree.{Trees}
use Rattle.exam_model.specs.Enrolments.{Enrolled}
use Rattle.exam_model.specs.Instance.{Session}
use Rattle.office_files.specs.InstanceText.{instance_in}
use Rattle.office_tables.specs.Tables.{schema_before}
use Rattle.office_tables.specs.Alterations.{found_in}
use Rattle.office_tables.specs.Schema.{no_schema}
use Rattle.office_model.specs.Office.{OfficeState}
use Rattle.office_model.specs.Loading.{NamesFirstFault, SpellsSession, load_session, new_records}
use Rattle.office_model.specs.declared.fault.StoreFault.{StoreFault}
use Rattle.office_model.specs.declared.fault.StoreFault.TheVariants as store
use Rattle.office_records.specs.Representation.{RepresentsOffice}
use Rattle.office_store.specs.Opening.{DatabaseUpgraded}
use Rattle.office_store.specs.Running.{IsCommitted, IsFault, Represents}
use Rattle.office_model.specs.declared.counts.Loaded.{Loaded}
use Rattle.office_output.specs.Writing.{WritesFront}
use Rattle.office_program.specs.declared.loading.LoadFault.{LoadFault}
use Rattle.office_program.specs.declared.loading.LoadFault.TheVariants.{Store, Write}

-- the line with the counts of a load, without its end
abbrev pub loaded_line : Loaded → List ℕ
loaded_line l =
    codes "loaded exams " ++ decimal l.exams ++ codes " pairs " ++ decimal l.pairs
    ++ codes " periods " ++ decimal l.periods ++ codes " rooms " ++ decimal l.rooms

-- the same, with its end
abbrev pub loaded_text : Loaded → List ℕ
loaded_text l = loaded_line l ++ 10 ∷ []

-- the text is loaded into the office, with these counts; the database represents the new office, it
-- is open, and all writes are committed
pub record IsLoaded (text : List ℕ) (office : OfficeState) (after : State) (counts : Loaded)
    : Type 0 where
  pub next : OfficeState
  pub gives : load_session text office ≡ Ok (counts, next)
  pub represents : Represents after next
  pub committed : IsCommitted after

-- the text is loaded into the office, and the line with its counts is printed
pub record Loads (text : List ℕ) (office : OfficeState) (after : State)
    (old new : Option (List ℕ)) : Type 0 where
  pub counts : Loaded
  pub loaded : IsLoaded text office after counts
  pub printed : Appends old new (loaded_text counts)

-- the office's own refusal or a failed statement; or the load is done, but the line isn't written
abbrev pub RefusesLoad : List ℕ → OfficeState → State → LoadFault → Type 0
RefusesLoad text office after (Store fault) = IsFault (load_session text office) fault
RefusesLoad text office after Write = (counts : Loaded) × IsLoaded text office after counts

-- a fact that holds if the office refuses the text, or a statement failed
abbrev pub IfRefused : Type 0 → LoadFault → Type 0
IfRefused Then (Store fault) = Then
IfRefused Then Write = Unit {0}

-- a fact about the office's fault, unless the load is done and only its line isn't written
abbrev pub IfStored : LoadFault → (StoreFault → Type 0) → Type 0
IfStored (Store fault) P = P fault
IfStored Write P = Unit {0}

-- a load into an office ended so: the text is loaded and the line printed, or it was refused, and
-- the database still represents the office
pub record LoadRan (text : List ℕ) (office : OfficeState) (after : State)
    (old new : Option (List ℕ)) (result : Result (Unit {0}) LoadFault) : Type 0 where
  pub done : OnOk result (Loads text office after old new)
  pub refused : IfErr result (RefusesLoad text office after)
  pub stays : IfErr result (IfRefused (Represents after office))

-- ---- what a later opening may find

-- the trees hold the office with the session in the text, and nothing else; they list the office's
-- schema and obey it, so they can be opened
pub record HoldsLoaded (text : List ℕ) (found : Trees) : Type 0 where
  pub session : Session × Enrolled
  pub spelled : instance_in text ≡ Ok session
  pub holds : RepresentsOffice (found_in found) (Some (new_records session))
  pub sound : IsDatabase (found_in found)

-- no refusal that the office names
abbrev pub IsUnnamed : LoadFault → Type 0
IsUnnamed (Store fault) = fault ≡ store.Store
IsUnnamed Write = Unit {0}

-- what a load may commit that isn't refused with a named fault: the session in the text
abbrev pub MayLoad : {A : Type 0} → List ℕ → Result A LoadFault → Trees → Type 0
MayLoad text result found = IfErr result IsUnnamed × HoldsLoaded text found

-- what opening may commit if the tables are of version 1: the same office in version 2, in trees
-- that can be opened
abbrev pub MayUpgrade : State → Trees → Type 0
MayUpgrade old found =
    (old.now.schema ≡ schema_before) × DatabaseUpgraded old.now (found_in found)
    × IsDatabase (found_in found)

-- what opening may commit: the tables without a session if there was no table, or that; if the
-- database was open, the tables can be opened
abbrev pub MayBringUp : State → Trees → Type 0
MayBringUp old found =
    ((old.now.schema ≡ no_schema) × RepresentsOffice (found_in found) None
    × (IsTrue old.is_open → IsDatabase (found_in found)))
    ⊎ MayUpgrade old found

-- the connection that a run returns
abbrev pub connection_after : {S E : Type 0} → Result (Held S) (E × Held S) → Held S
connection_after (Ok after) = after
connection_after (Err refused) = refused.1

-- the fault with which a run was refused
abbrev pub fault_of : {S E : Type 0} → Result (Held S) (E × Held S) → Result (Unit {0}) E
fault_of (Ok after) = Ok tt
fault_of (Err refused) = Err refused.0

-- the fault is the first one of a text that the office refuses
abbrev pub NamesTextFault : List ℕ → LoadFault → Type 0
NamesTextFault text (Store fault) = NamesFirstFault text fault
NamesTextFault text Write = Unit {0}

-- the line with the counts of the session in the text is printed
abbrev pub PrintsCounts : List ℕ → Option (List ℕ) → Option (List ℕ) → Type 0
PrintsCounts text old new =
    (counts : Loaded) × SpellsSession text counts × Appends old new (loaded_text counts)

-- the same, of a front of the line
abbrev pub PrintsCountsFront : List ℕ → Option (List ℕ) → Option (List ℕ) → Type 0
PrintsCountsFront text old new =
    (counts : Loaded) × SpellsSession text counts × WritesFront old new (loaded_text counts)
