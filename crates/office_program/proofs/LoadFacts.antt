-- Facts of a load, from its parts.
use Rattle.std.proofs.Common.{◌≡◌, ◌⊎◌, List, None, Some, ap, inl, inr, refl, subst, sym, Err, IfErr, Ok, Result, ℕ}
use Rattle.std.specs.Prelude.{is_none}
use Rattle.sqlite.specs.Held.{Held, state}
use Rattle.sqlite.specs.State.{State, Survives}
use Rattle.sqlite.specs.Store.{Ghosts}
use Rattle.sqlite.proofs.StateLemmas.{survives_then, survives_weaker}
use Rattle.sqlite_trees.specs.Tree.{Trees}
use Rattle.exam_model.specs.Enrolments.{Enrolled}
use Rattle.exam_model.specs.Instance.{Session}
use Rattle.exam_terms.specs.Refusing.{◌>>=◌, unless}
use Rattle.office_files.specs.InstanceText.{instance_in}
use Rattle.office_files.specs.declared.fault.FileFault.{FileFault}
use Rattle.office_tables.specs.Alterations.{found_in}
use Rattle.office_records.specs.Representation.{RepresentsOffice}
use Rattle.office_model.specs.Office.{OfficeState}
use Rattle.office_model.specs.Commands.{CommandResult, renamed_fault}
use Rattle.office_model.specs.Loading.{load_session, new_records, session_counts}
use Rattle.office_model.specs.declared.counts.Loaded.{Loaded}
use Rattle.office_model.specs.declared.fault.Refusal.TheVariants as refusal
use Rattle.office_model.specs.declared.fault.StoreFault.TheVariants as store
use Rattle.office_store.specs.Leaving.{HoldsNext, LeavesNext, MayCommit, MayMigrate, MayOpen}
use Rattle.office_store.specs.Running.{IsFault}
use Rattle.office_model.specs.declared.fault.StoreFault.{StoreFault}
use Rattle.office_model.specs.declared.fault.StoreFault.TheVariants.{Store}
use Rattle.office_program.specs.Load.{HoldsLoaded, IfRefused, IsUnnamed, MayBringUp, MayLoad, MayUpgrade}
use Rattle.office_program.specs.declared.loading.LoadFault.{LoadFault}
use Rattle.office_program.specs.declared.loading.LoadFault.TheVariants.{Store as Refused, Write}

-- if no office is found, the fault is a failed statement, or there is no office in the database
pub no_office : {A : Type 0} (gives : CommandResult A) (fault : StoreFault)
    (P : OfficeState → Type 0)
    → (fault ≡ Store) ⊎ ((there : OfficeState) → P there → ⊥) → (there : OfficeState) → P there
    → IsFault gives fault
no_office gives fault P (inl is) there holds = rw is tt
no_office gives fault P (inr none) there holds = absurd (none there holds)

-- a fact that holds if the office refuses
pub if_refused : {P T : Type 0} (fault : LoadFault) → (P → T) → IfRefused P fault
    → IfRefused T fault
if_refused (Refused fault) follows p = follows p
if_refused Write follows p = tt

-- ---- what a later opening may find

-- what reading the text leads to
abbrev gives_of : Result (Session × Enrolled) FileFault → OfficeState → CommandResult Loaded
gives_of read office = do
  s ← renamed_fault (λ f. store.Refused (refusal.File f)) read
  _ ← unless (is_none office) store.Loaded
  Ok (session_counts s, Some (new_records s))

abbrev ok_or : {A E : Type 0} → A → Result A E → A
ok_or other (Ok a) = a
ok_or other (Err e) = other

loaded_from : (read : Result (Session × Enrolled) FileFault) (office next : OfficeState)
    (counts : Loaded) → gives_of read office ≡ Ok (counts, next)
    → (s : Session × Enrolled) × (read ≡ Ok s) × (next ≡ Some (new_records s))
loaded_from (Err f) office next counts is = absurd cc
loaded_from (Ok s) (Some r) next counts is = absurd cc
loaded_from (Ok s) None next counts is =
    (s, refl, sym (ap (λ r. (ok_or {A = Loaded × OfficeState} (counts, next) r).1) is))

-- what a load commits is the session in the text
held_loaded : (text : List ℕ) (old : State) (found : Trees) → HoldsNext (load_session text) old found
    → HoldsLoaded text found
held_loaded text old found next =
    let after = next.holds next.office next.stood in
    let from = loaded_from (instance_in text) next.office after.1 after.0 after.2 in
    record {
      session = from.0;
      spelled = from.1;
      holds = subst (RepresentsOffice (found_in found)) from.2 after.3;
      sound = next.sound;
    }

-- a load that succeeded or was refused, and then its line
pub load_survives : {S : Type 0} (g : Ghosts S) (text : List ℕ) (old new : Held S)
    (loaded : Result Loaded StoreFault) (result : Result (Unit {0}) LoadFault)
    → LeavesNext g (load_session text) old new loaded
    → (IfErr loaded (λ e. e ≡ Store) → IfErr result IsUnnamed)
    → Survives (state g old) (state g new) (MayLoad text result)
load_survives g text old new loaded result next unnamed =
    survives_weaker (state g old) (state g new) (MayCommit (load_session text) (state g old) loaded) _
    (λ _ found may. (unnamed may.0, held_loaded text (state g old) found may.1)) next.survives

-- what an opening may commit that succeeded
pub may_bring_up : {S : Type 0} (old : State) (office : Held S) (found : Trees)
    → MayOpen old (Ok office) found → MayBringUp old found
may_bring_up old office found (inl made) = inl (made.0, made.2, made.3)
may_bring_up old office found (inr migrated) = inr (migrated.0, migrated.2, migrated.3)

-- a load after an opening that succeeded
pub run_survives : {S : Type 0} (g : Ghosts S) (text : List ℕ) (conn office after released : Held S)
    (result : Result (Unit {0}) LoadFault)
    → Survives (state g conn) (state g office) (MayOpen (state g conn) (Ok office))
    → Survives (state g office) (state g after) (MayLoad text result) → released ≡ after
    → Survives (state g conn) (state g released)
    (λ found. MayBringUp (state g conn) found ⊎ MayLoad text result found)
run_survives g text conn office after released result opened loaded is =
    subst (λ held. Survives (state g conn) (state g held)
    (λ found. MayBringUp (state g conn) found ⊎ MayLoad text result found)) (sym is)
    (survives_then (state g conn) (state g office) (state g after)
    (MayOpen (state g conn) (Ok office)) (MayLoad text result)
    (λ found. MayBringUp (state g conn) found ⊎ MayLoad text result found)
    (λ _ found may. inl (may_bring_up (state g conn) office found may)) (λ _ found may. inr may)
    opened loaded)

-- an export after an adoption that succeeded
pub export_survives : {S : Type 0} (g : Ghosts S) (conn office after released : Held S)
    → Survives (state g conn) (state g office) (MayMigrate (state g conn) (Ok office))
    → Survives (state g office) (state g after) (λ _. ⊥) → released ≡ after
    → Survives (state g conn) (state g released) (MayUpgrade (state g conn))
export_survives g conn office after released adopted read is =
    subst (λ held. Survives (state g conn) (state g held) (MayUpgrade (state g conn))) (sym is)
    (survives_then (state g conn) (state g office) (state g after)
    (MayMigrate (state g conn) (Ok office)) (λ _. ⊥) (MayUpgrade (state g conn))
    (λ _ found may. (may.0, may.2, may.3)) (λ _ found none. absurd none) adopted read)
