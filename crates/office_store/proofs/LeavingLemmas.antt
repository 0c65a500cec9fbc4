-- What a later opening may find after calls, one after another.
use Rattle.std.proofs.Common.{None, ◌≡◌, ◌∙◌, Ok, Err, Result, IsTrue, arith, inl, refl, sym, subst}
use Rattle.std.proofs.lemmas.Result.{on_err_weaker, on_ok_weaker}
use Rattle.std.specs.Prelude.{IfErr}
use Rattle.std.specs.Result.{IsErrAnd}
use Rattle.sqlite.specs.Effect.{Database, IsDatabase}
use Rattle.sqlite.specs.Held.{Held, state}
use Rattle.sqlite.specs.State.{State, HasCleanDisk, IsUnchanged, Survives}
use Rattle.sqlite.specs.Store.{Ghosts}
use Rattle.sqlite.proofs.StateLemmas.{survives_then, survives_weaker}
use Rattle.sqlite_trees.specs.Tree.{Trees}
use Rattle.office_tables.specs.Alterations.{Committed, IsWritten, TablesChanged, TransactionRan, Undone, found_in}
use Rattle.office_tables.specs.Schema.{IsBlank, no_schema}
use Rattle.office_tables.specs.Tables.{Tables, empty_tables}
use Rattle.office_tables.specs.TablesHeld.{HoldsTables}
use Rattle.office_model.specs.Commands.{CommandResult}
use Rattle.office_model.specs.Office.{OfficeState}
use Rattle.office_model.specs.declared.fault.StoreFault.{StoreFault}
use Rattle.office_model.specs.declared.fault.StoreFault.TheVariants.{Store}
use Rattle.office_records.specs.Representation.{RepresentsOffice}
use Rattle.office_store.specs.FoldReads.{HasRead, RowsUnchanged}
use Rattle.office_store.specs.Leaving.{HoldsNext, LeavesNext, LeavesUnchanged, MayCommit, MayMake}
use Rattle.office_store.specs.Running.{CommandRan, IsCommitted, IsFault, MatchesMemory, Represents, StateUnchanged}
use Rattle.office_store.specs.declared.memory.OfficeMemory.{OfficeMemory}
use Rattle.office_tables.proofs.TurnLemmas.{ran_weaker}
use Rattle.office_store.proofs.CommandLemmas.{MovesBy, RowsChanged, read_inside, there_inside}
use Rattle.office_store.proofs.RunLemmas.{now_still, rest_still, still_then, still_undone}

-- ---- nothing is committed

pub survives_same : (a : State) → Survives a a (λ _. ⊥)
survives_same a = record {
  clean = omega arith;
  shield = λ h. h;
  counts = omega arith;
  limit = refl;
  closes = λ _ opened. inl opened;
  crash = λ _ db may. inl may;
}

-- a call that read nothing
pub leaves_itself : {S : Type 0} (g : Ghosts S) (a : Held S)
    → (HasCleanDisk (state g a) → IsCommitted (state g a))
    → LeavesUnchanged {A = Unit {0}} {E = StoreFault} g a a (Ok tt)
leaves_itself g a all_committed = record {
  clean = λ clean. clean;
  unchanged = λ _ opened. (opened, refl);
  all_committed = all_committed;
  survives = survives_same (state g a);
}

pub survives_on : (a b c : State) → Survives a b (λ _. ⊥) → Survives b c (λ _. ⊥)
    → Survives a c (λ _. ⊥)
survives_on a b c = survives_then a b c _ _ _ (λ _ db none. none) (λ _ db none. none)

-- ---- a command

-- a command after a reader
pub leaves_then : {S A B F : Type 0} {r : Result B F} {g : Ghosts S}
    {command : OfficeState → CommandResult A} {before mid after : Held S}
    {result : Result A StoreFault} → LeavesUnchanged g before mid r
    → LeavesNext g command mid after result → LeavesNext g command before after result
leaves_then {g = g} {before = before} {mid = mid} {after = after} {result = result} read next = record {
  clean = λ k. read.clean (next.clean k);
  unchanged_on_err = λ k. on_err_weaker result
      (still_then (state g before) (state g mid) (state g after) (read.unchanged (next.clean k)))
      (next.unchanged_on_err k);
  all_committed = next.all_committed;
  survives = survives_then (state g before) (state g mid) (state g after) (λ _. ⊥) _ _
      (λ _ db none. absurd none)
      (λ k found may.
      let was = read.unchanged (next.clean k) may.1.was_open in (
        may.0,
        record {
          was_open = was.0;
          sound = may.1.sound;
          office = may.1.office;
          stood = subst (λ db. RepresentsOffice db may.1.office) was.1 may.1.stood;
          holds = λ there kept.
              may.1.holds there (subst (λ db. RepresentsOffice db there) (sym was.1) kept);
        },
      )) read.survives next.survives;
}

-- readers, and then a transaction that leads to the office after the command
module _ {S A B F U E : Type 0} {y : B} {g : Ghosts S} {command : OfficeState → CommandResult A}
    {x : A} {r : Result U E} {before mid inside after : Held S} {m : OfficeMemory} {f : Tables → Tables}
    (view : inside ≡ mid) (rest : MatchesMemory (state g inside) m)
    (looked : LeavesUnchanged {A = B} {E = F} g before mid (Ok y))
    (ran : TransactionRan g (TablesChanged f) inside after r)
    (moves : HasCleanDisk (state g after) → MovesBy f command x (state g inside).now m) where
  read : LeavesUnchanged {A = B} {E = F} g before inside (Ok y)
  read = read_inside view rest looked

  -- the office that the changed tables represent, from one before
  next_of : HasCleanDisk (state g after) → (o : OfficeState) → Represents (state g before) o
      → (db : Database) → RowsChanged f (state g inside).now db
      → (new : OfficeState) × (command o ≡ Ok (x, new)) × RepresentsOffice db new
  next_of k o now db changed =
      let here = there_inside view rest looked (ran.clean k) o now in
      moves k db changed o here.0 here.1

  next_held : HasCleanDisk (state g after) → (found : Trees)
      → TablesChanged f (state g inside).now (found_in found) → HoldsNext command (state g before) found
  next_held k found changed =
      let opened = (read.all_committed (ran.clean k)).0 in
      let was = read.unchanged (ran.clean k) opened in
      let stood = rest (ran.clean k) opened in
      record {
        was_open = was.0;
        sound = (changed stood.1.held stood.1.tables).1 (ran.sound k opened);
        office = stood.0;
        stood = subst (λ db. RepresentsOffice db stood.0) was.1 stood.1;
        holds = λ o kept.
            let next = next_of k o (λ _. kept) (found_in found) (λ t held. (changed t held).0) in
            (x, next.0, next.1, next.2);
      }

  survives_next : (result : Result A StoreFault) → IfErr result (λ e. e ≡ Store)
      → Survives (state g before) (state g after) (MayCommit command (state g before) result)
  survives_next result unrefused =
      survives_then (state g before) (state g inside) (state g after) _ _
      (MayCommit command (state g before) result) (λ _ db none. absurd none)
      (λ k db changed. (unrefused, next_held k db changed)) read.survives ran.survives

  -- the transaction is done: the command ran
  pub done_next : (HasCleanDisk (state g after)
      → Committed (TablesChanged f) (state g inside) (state g after))
      → record {
        runs : CommandRan g command before after (Ok x);
        leaves : LeavesNext g command before after (Ok x);
      }
  done_next done = record {
    runs = λ k o now.
        let next = next_of k o now (state g after).now (λ t held. ((done k).related t held).0) in
        (next.0, next.1, λ _. next.2);
    leaves = record {
      clean = λ k. read.clean (ran.clean k);
      unchanged_on_err = λ k. tt;
      all_committed = λ k. ((done k).is_open, (done k).committed);
      survives = survives_next (Ok x) tt;
    };
  }

  -- the transaction is undone: the command was refused with a failed statement
  pub undone_next : {result : Result A StoreFault}
      → (HasCleanDisk (state g after) → Undone (state g inside) (state g after))
      → IsErrAnd result (λ e. e ≡ Store)
      → record {
        runs : CommandRan g command before after result;
        leaves : LeavesNext g command before after result;
      }
  undone_next {result = Ok z} undone is = absurd is
  undone_next {result = Err e} undone is = record {
    runs = λ k o now. subst (λ e. IsFault (command o) e × Represents (state g after) o) (sym is)
        (tt, now_still (state g before) (state g after) o (still k) now);
    leaves = record {
      clean = λ k. read.clean (ran.clean k);
      unchanged_on_err = still;
      all_committed = λ k. tt;
      survives = survives_next (Err e) is;
    };
  }
    where
      still : HasCleanDisk (state g after) → StateUnchanged (state g before) (state g after)
      still k =
          still_then (state g before) (state g inside) (state g after) (read.unchanged (ran.clean k))
          (still_undone (state g inside) (state g after)
          (λ _. (read.all_committed (ran.clean k)).1) (undone k))

-- the memory is still the office's
pub rest_undone : {S U E : Type 0} {g : Ghosts S} {inside after : Held S} {m : OfficeMemory}
    {f : Tables → Tables} {r : Result U E} → MatchesMemory (state g inside) m
    → (HasCleanDisk (state g inside) → IsCommitted (state g inside))
    → TransactionRan g (TablesChanged f) inside after r
    → (HasCleanDisk (state g after) → Undone (state g inside) (state g after))
    → MatchesMemory (state g after) m
rest_undone {g = g} {inside = inside} {after = after} {m = m} rest committed ran undone =
    rest_still (state g inside) (state g after) m ran.clean
    (λ k. still_undone (state g inside) (state g after) (λ _. (committed (ran.clean k)).1) (undone k)) rest

-- a transaction on what was read is one on what the tables held before
module _ {S A E : Type 0} {g : Ghosts S} {a b c : Held S} {m : OfficeMemory} {f : Tables → Tables}
    {result : Result A E} (rest : MatchesMemory (state g a) m) (read : HasRead g a b)
    (same : RowsUnchanged g a b)
    (opened : HasCleanDisk (state g a) → IsTrue (state g a).is_open)
    (altered : TransactionRan g (TablesChanged f) b c result) where
  still : HasCleanDisk (state g c) → IsUnchanged (state g a) (state g b)
  still k =
      let mid = altered.clean k in
      let was = opened (read.clean mid) in
      let here = rest (read.clean mid) was in
      same mid here.1.held here.1.tables was

  changed : HasCleanDisk (state g c) → (db : Database) → TablesChanged f (state g b).now db
      → TablesChanged f (state g a).now db
  changed k db = subst (λ old. TablesChanged f old db) (still k).0.now_is

  pub altered_on : TransactionRan g (TablesChanged f) a c result
  altered_on = record {
    done = λ k. on_ok_weaker result (λ done. record {
      was_open = (still k).0.was_open;
      is_open = done.is_open;
      committed = done.committed;
      related = changed k (state g c).now done.related;
    }) (altered.done k);
    undone = λ k. on_err_weaker result (λ back. record {
      was_open = λ _. (still k).0.was_open;
      now = λ o. back.now o ∙ (still k).0.committed_is;
      committed = λ o. back.committed o ∙ (still k).0.committed_is;
    }) (altered.undone k);
    rests = altered.rests;
    clean = λ k. read.clean (altered.clean k);
    sound = λ k _. subst IsDatabase (still k).0.now_is (altered.sound k (still k).0.is_open);
    survives = survives_then (state g a) (state g b) (state g c) (λ _. ⊥)
        (λ found. TablesChanged f (state g b).now (found_in found))
        (λ found. TablesChanged f (state g a).now (found_in found))
        (λ _ db none. absurd none) (λ k found. changed k (found_in found)) read.survives altered.survives;
  }

-- an alteration that makes the same tables
pub same_altered : {S A E : Type 0} {g : Ghosts S} {old new : Held S} {f h : Tables → Tables}
    {result : Result A E} → TransactionRan g (TablesChanged f) old new result
    → ((t : Tables) → f t ≡ h t) → TransactionRan g (TablesChanged h) old new result
same_altered {g = g} {old = old} {new = new} {result = result} altered same =
    ran_weaker g old new result _ _
    (λ a b changed t held. subst (λ all. IsWritten all a b) (same t) (changed t held)) altered

-- ---- a new office

-- a database without a table has no row
pub bare_blank : (db : Database) → db.schema ≡ no_schema → IsBlank no_schema db
bare_blank db bare = record { schema_is = bare; rows = tt }

-- empty tables represent the office without a session
pub empty_represents : {db : Database} → HoldsTables db empty_tables → RepresentsOffice db None
empty_represents held = record {
  held = empty_tables;
  tables = held;
  represents = refl;
  sound = tt;
  office = tt;
}

pub may_make : {S : Type 0} (g : Ghosts S) (old new : Held S)
    (result : Result (Held S) (StoreFault × Held S)) → (state g old).now.schema ≡ no_schema
    → IfErr result (λ e. e.0 ≡ Store)
    → Survives (state g old) (state g new)
    (λ found. IsBlank no_schema (state g old).now
    → IsWritten empty_tables (state g old).now (found_in found))
    → (HasCleanDisk (state g new) → IsTrue (state g old).is_open → IsDatabase (state g old).now)
    → Survives (state g old) (state g new) (MayMake (state g old) result)
may_make g old new result bare unrefused survives live =
    survives_weaker (state g old) (state g new) _ (MayMake (state g old) result) (λ k found makes.
    let made = makes (bare_blank (state g old).now bare) in (
      bare,
      unrefused,
      empty_represents made.0,
      λ opened. made.1 (live k opened),
    )) survives
