-- What a call leaves of the office.
use Rattle.std.proofs.Common.{◌≡◌, Option, Some, None, refl, Ok, Err, Result, sym, ap, subst, arith, ◌∙◌, IsTrue, inl, inr}
use Rattle.std.proofs.lemmas.Option.{same_Some}
use Rattle.exam_model.specs.Enrolments.{Enrolled}
use Rattle.exam_model.specs.Instance.{Session}
use Rattle.office_model.specs.Office.{AreRecords, IsPublication, OfficeState, Publication, Records}
use Rattle.office_records.specs.Memory.{memory_of}
use Rattle.office_model.specs.declared.fault.StoreFault.{StoreFault}
use Rattle.office_model.specs.Commands.{CommandResult, session_shown}
use Rattle.office_store.specs.Running.{CommandOutcome, IsAtRest, Represents, MatchesMemory, StateUnchanged}
use Rattle.sqlite.specs.declared.error.Error.{Error}
use Rattle.sqlite.specs.Held.{Held, state}
use Rattle.sqlite.specs.State.{State, HasCleanDisk, Survives}
use Rattle.sqlite.specs.Store.{Ghosts}
use Rattle.sqlite_trees.specs.Tree.{Trees}
use Rattle.office_tables.specs.Readers.{Keeps, LeavesTables}
use Rattle.office_tables.specs.Tables.{Tables}
use Rattle.office_tables.specs.TablesHeld.{HoldsTables}
use Rattle.office_records.specs.Representation.{RepresentsOffice}
use Rattle.office_tables.specs.Alterations.{Undone}
use Rattle.office_store.specs.Memory.{IsMemoryOf}
use Rattle.office_store.specs.declared.memory.OfficeMemory.{OfficeMemory}
use Rattle.office_store.proofs.InMemoryLemmas.{same_in_memory}

-- if the command leaves the office unchanged, the office after the call is the one before
pub does_now : {A : Type 0} (gives : CommandResult A) (o : OfficeState)
    (Stays : OfficeState → Type 0)
    (r : Result A StoreFault) → CommandOutcome gives o (λ new. new ≡ o) r → Stays o
    → CommandOutcome gives o Stays r
does_now gives o Stays (Ok x) does here = (does.0, does.1, subst Stays (sym does.2) here)
does_now gives o Stays (Err e) does here = (does.0, here)

-- ---- the publication

-- what holds without a publication and of each valid one holds of the office's
pub by_publication : {r : Records} → AreRecords r → (P : Option Publication → Type 0) → P None
    → ((p : Publication) → IsPublication r.session p → P (Some p)) → P r.published
by_publication {r = r} is P none some = go r.published is.publication
  where
    go : (published : Option Publication)
        → ((p : Publication) → published ≡ Some p → IsPublication r.session p) → P published
    go None each = none
    go (Some p) each = some p (each p refl)

-- ---- the session

-- the session in memory is what the office shows
pub session_returned : (o : OfficeState) (I : Session) (E : Enrolled) → memory_of o ≡ Some (I, E)
    → session_shown o ≡ Ok ((I, E), o)
session_returned None I E here = absurd cc
session_returned (Some r) I E here =
    ap (λ (s : Session × Enrolled). Ok (s, Some r)) (same_Some (r.session, r.enrolments) (I, E) here)

-- ---- the disk

-- a disk that is clean after a call was clean before it
pub clean_before : {a b : State} {Commits : Trees → Type 0} → Survives a b Commits
    → HasCleanDisk b → HasCleanDisk a
clean_before survives clean = omega (arith, survives.clean, clean)

-- ---- nothing has changed

pub now_still : (a b : State) (o : OfficeState) → StateUnchanged a b → Represents a o
    → Represents b o
now_still a b o still now opened =
    let is = still opened in
    subst (λ db. RepresentsOffice db o) (sym is.1) (now is.0)

-- one call after another
pub still_then : (a b c : State) → StateUnchanged a b → StateUnchanged b c → StateUnchanged a c
still_then a b c first next opened =
    let late = next opened in
    let early = first late.0 in
    (early.0, late.1 ∙ early.1)

pub rest_still : (a b : State) (m : OfficeMemory) → (HasCleanDisk b → HasCleanDisk a)
    → (HasCleanDisk b → StateUnchanged a b) → MatchesMemory a m → MatchesMemory b m
rest_still a b m clean still rest is_clean opened =
    let is = still is_clean opened in
    let here = rest (clean is_clean) is.0 in
    (here.0, subst (λ db. RepresentsOffice db here.0) (sym is.1) here.1, here.2)

-- a reader that failed, if all was committed before
pub still_kept : (a b : State) → IsAtRest a → Keeps a b
    → StateUnchanged a b
still_kept a b settled kept opened =
    let was = kept.was_open opened in
    (was, elim (kept.now opened) [ inl same ↦ same | inr back ↦ back ∙ sym (settled was) ])

-- a transaction that failed
pub still_undone : (a b : State) → IsAtRest a
    → Undone a b → StateUnchanged a b
still_undone a b settled undone opened =
    let was = undone.was_open opened in
    (was, undone.now opened ∙ sym (settled was))

-- ---- what is in memory

pub at_hand : (s : State) (m : OfficeMemory) (o : OfficeState) → MatchesMemory s m → HasCleanDisk s
    → IsTrue s.is_open → RepresentsOffice s.now o → IsMemoryOf o m
at_hand s m o rest clean opened kept =
    let here = rest clean opened in
    same_in_memory s.now here.0 o here.1 kept m here.2

pub nothing_kept : (o : OfficeState) → memory_of o ≡ None → o ≡ None
nothing_kept None h = refl
nothing_kept (Some r) h = absurd cc

-- the records of an office with this session and these enrolments in memory
pub record IsKeptOf (o : OfficeState) (I : Session) (E : Enrolled) : Type 0 where
  pub records : Records
  pub is : o ≡ Some records
  pub session : records.session ≡ I
  pub enrolments : records.enrolments ≡ E

pub remembered_of : (o : OfficeState) (I : Session) (E : Enrolled) → memory_of o ≡ Some (I, E)
    → IsKeptOf o I E
remembered_of None I E h = absurd cc
remembered_of (Some r) I E h = record {
  records = r;
  is = refl;
  session = ap (λ (p : Session × Enrolled). p.0) (same_Some _ _ h);
  enrolments = ap (λ (p : Session × Enrolled). p.1) (same_Some _ _ h);
}

-- ---- readers, which don't open a closed store

-- all was committed before, and the reader leaves the tables, or what was committed
module _ (a b : State) (m : OfficeMemory) (rest : MatchesMemory a m)
    (clean : HasCleanDisk b → HasCleanDisk a)
    (settled : HasCleanDisk a → IsAtRest a)
    (was_open : HasCleanDisk b → IsTrue b.is_open → IsTrue a.is_open)
    (reads : HasCleanDisk b → (t : Tables) → HoldsTables a.now t → Keeps a b) where
  pub still_read : HasCleanDisk b → StateUnchanged a b
  still_read is_clean opened =
      let here = rest (clean is_clean) (was_open is_clean opened) in
      still_kept a b (settled (clean is_clean)) (reads is_clean here.1.held here.1.tables) opened

  pub rest_read : MatchesMemory b m
  rest_read = rest_still a b m clean still_read rest

-- what is in memory matches the tables after a reader of them
pub rest_after : {S X : Type 0} {result : Result X Error} {g : Ghosts S} {a b : Held S}
    {m : OfficeMemory} → MatchesMemory (state g a) m → IsAtRest (state g a)
    → LeavesTables g a b result → MatchesMemory (state g b) m
rest_after {g = g} {a = a} {b = b} {m = m} rest settled read =
    rest_read (state g a) (state g b) m rest (clean_before read.survives) (λ _. settled) read.was_open
    read.kept

-- a reader that succeeded leaves the database as it was
pub now_after : {S X : Type 0} {x : X} {g : Ghosts S} {a b : Held S} {m : OfficeMemory}
    → MatchesMemory (state g a) m → LeavesTables g a b (Ok x) → HasCleanDisk (state g b)
    → (state g b).now ≡ (state g a).now
now_after rest read clean =
    let here = rest (clean_before read.survives clean) (read.open_on_ok clean) in
    (read.same clean here.1.held here.1.tables).0.now_is
