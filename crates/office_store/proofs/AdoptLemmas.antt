-- What reading all tables leaves unchanged, and what the migration makes of the tables.
use Rattle.std.proofs.Common.{◌≡◌, ◌≢◌, ◌⊎◌, inl, inr, false, List, ◌∷◌, map, IsTrue, [], refl, sym, ◌∙◌, arith, subst}
use Rattle.std.specs.Prelude.{All, AllPairs, IfErr, Ok, OnErr, OnOk, Result}
use Rattle.std.proofs.lemmas.Result.{on_err_weaker, on_ok_weaker}
use Rattle.std.proofs.lemmas.List.Elements.{All-from_recursion}
use Rattle.std.proofs.lemmas.List.Kept.{AllPairs-cons}
use Rattle.exam_lists.proofs.Results.{OnOk_any}
use Rattle.sqlite.proofs.StateLemmas.{survives_then, survives_weaker}
use Rattle.sqlite_trees.specs.Tree.{IsAscending, Trees}
use Rattle.sqlite.specs.Effect.{Database, IsDatabase}
use Rattle.sqlite.specs.Held.{Held, state}
use Rattle.sqlite.specs.State.{HasCleanDisk, IsUnchanged, State, Survives}
use Rattle.sqlite.specs.Store.{Ghosts}
use Rattle.office_tables.specs.Adopting.{IsAdopted}
use Rattle.office_tables.specs.Tables.{tables_of, Tables}
use Rattle.office_tables.specs.Tables.Batches.{counts_of, batch_columns, Batch}
use Rattle.office_tables.specs.Readers.{Keeps, LeavesFile, LeavesTablesIn}
use Rattle.office_tables.specs.TablesHeld.{HoldsSomeTables, HoldsTables, HoldsTablesIn}
use Rattle.office_tables.specs.Versions.{schema_of}
use Rattle.office_tables.specs.declared.tables.Found.{Found}
use Rattle.office_tables.specs.declared.version.Version.{Version}
use Rattle.office_tables.specs.declared.version.Version.TheVariants.{One, Two}
use Rattle.office_tables.proofs.Frames.{held_at}
use Rattle.office_tables.proofs.TableLemmas.{keys_once}
use Rattle.office_model.specs.Office.{OfficeState, IsOffice}
use Rattle.office_model.specs.declared.fault.StoreFault.{StoreFault}
use Rattle.office_model.specs.declared.fault.StoreFault.TheVariants.{Store}
use Rattle.office_records.specs.FoundBatches.{AreFoundBatches, IsShort}
use Rattle.office_records.specs.Memory.{Memory, memory_of}
use Rattle.office_records.specs.Representation.{RepresentsOffice, RepresentsOfficeIn, IsSound, TablesRepresentOffice}
use Rattle.office_records.proofs.BatchRowLemmas.{stored_short}
use Rattle.office_records.proofs.MemoryLemmas.{same_memory_in}
use Rattle.office_records.proofs.SameTables.{same_sound_in, same_represents_in}
use Rattle.office_store.specs.Leaving.{MayMigrate}
use Rattle.office_store.specs.Opening.{HoldsOffice, IsFoundOffice, DatabaseUpgraded, HasNoNightWeightIn}
use Rattle.office_store.specs.declared.memory.OfficeMemory.{OfficeMemory}
use Rattle.office_tables.specs.Alterations.{Undone, found_in}
use Rattle.office_tables.proofs.AdoptLemmas.{one_version, unchanged_then}
use Rattle.office_tables.proofs.Reading.{keeps_after}
use Rattle.office_store.specs.Running.{IsAtRest, IsCommitted}
use Rattle.office_store.specs.Transactions.{Migrated}
use Rattle.office_store.proofs.LeavingLemmas.{survives_on, survives_same}
use Rattle.office_store.proofs.RunLemmas.{clean_before}

-- ---- readers, one after the other

module _ {S : Type 0} (g : Ghosts S) (old mid : Held S) where
  -- the tables from before are still there
  pub held_still : (version : Version) (t : Tables)
      → (mid ≡ old) ⊎ IsUnchanged (state g old) (state g mid)
      → HoldsTablesIn version (state g old).now t → HoldsTablesIn version (state g mid).now t
  held_still version t (inl same) held =
      subst (λ h. HoldsTablesIn version (state g h).now t) (sym same) held
  held_still version t (inr still) held =
      subst (λ db. HoldsTablesIn version db t) (sym still.0.now_is) held

  -- and so are tables of either version
  pub some_still : HoldsSomeTables (state g old).now
      → (mid ≡ old) ⊎ IsUnchanged (state g old) (state g mid) → HoldsSomeTables (state g mid).now
  some_still some same = (some.0, some.1, held_still some.0 some.1 same some.2)

  module _ (new : Held S) where
    -- what one reader leaves, and then another
    pub both_same : (mid ≡ old) ⊎ IsUnchanged (state g old) (state g mid)
        → (new ≡ mid) ⊎ IsUnchanged (state g mid) (state g new)
        → (new ≡ old) ⊎ IsUnchanged (state g old) (state g new)
    both_same first (inl same) =
        subst (λ h. (h ≡ old) ⊎ IsUnchanged (state g old) (state g h)) (sym same) first
    both_same (inl same) (inr still) = inr (subst (λ h. IsUnchanged (state g h) (state g new)) same still)
    both_same (inr first) (inr still) =
        inr (unchanged_then (state g old) (state g mid) (state g new) first still)

    pub keeps_still : (mid ≡ old) ⊎ IsUnchanged (state g old) (state g mid)
        → Keeps (state g mid) (state g new) → Keeps (state g old) (state g new)
    keeps_still (inl same) keeps = subst (λ h. Keeps (state g h) (state g new)) same keeps
    keeps_still (inr still) keeps =
        keeps_after (state g old) (state g mid) (state g new) still keeps

-- what no reader leaves
pub file_itself : {S : Type 0} (Given : Type 0) (g : Ghosts S) (a : Held S)
    → LeavesFile {X = Unit {0}} {E = StoreFault} Given g a a (Ok tt)
file_itself Given g a = record {
  same = λ _ _. inl refl;
  kept = λ _ _. record {
    was_open = λ opened. opened;
    now = λ _. inl refl;
    committed = λ _. refl;
    mode = λ rests. rests;
  };
  mode = λ rests. rests;
  survives = survives_same (state g a);
}

-- what a reader of tables of either version leaves
pub file_of : {S X E : Type 0} {r : Result X E} {g : Ghosts S} {a b : Held S}
    → ((version : Version) → LeavesTablesIn version g a b r)
    → LeavesFile (HoldsSomeTables (state g a).now) g a b r
file_of {r = r} leaves = record {
  same = λ clean some. on_ok_weaker r (λ still. inr still)
      ((leaves some.0).same clean some.1 some.2);
  kept = λ clean some. (leaves some.0).kept clean some.1 some.2;
  mode = (leaves Two).mode;
  survives = (leaves Two).survives;
}

-- what readers leave, one after another
pub file_then : {S X Y E F : Type 0} {x : X} {r : Result Y F} {Given Next : Type 0} {g : Ghosts S}
    {a b c : Held S} → LeavesFile {E = E} Given g a b (Ok x) → LeavesFile Next g b c r
    → (HasCleanDisk (state g b) → Given → (b ≡ a) ⊎ IsUnchanged (state g a) (state g b) → Next)
    → LeavesFile Given g a c r
file_then {r = r} {g = g} {a = a} {b = b} {c = c} first later next = record {
  same = λ clean given.
      let mid = clean_before later.survives clean in
      let was = first.same mid given in
      on_ok_weaker r (both_same g a b c was) (later.same clean (next mid given was));
  kept = λ clean given.
      let mid = clean_before later.survives clean in
      let was = first.same mid given in
      keeps_still g a b c was (later.kept clean (next mid given was));
  mode = λ rests. later.mode (first.mode rests);
  survives = survives_on (state g a) (state g b) (state g c) first.survives later.survives;
}

-- the same, with a result that is an `Ok` only if the other is
pub file_as : {S X Y E F : Type 0} {r : Result X E} {s : Result Y F} {Given : Type 0}
    {g : Ghosts S} {a b : Held S} → ((P : Type 0) → OnOk r P → OnOk s P)
    → LeavesFile Given g a b r → LeavesFile Given g a b s
file_as on_ok leaves = record {
  same = λ clean given. on_ok _ (leaves.same clean given);
  kept = leaves.kept;
  mode = leaves.mode;
  survives = leaves.survives;
}

pub tables_as : {S X Y E F : Type 0} {r : Result X E} {s : Result Y F} {version : Version}
    {g : Ghosts S} {a b : Held S} → ((P : Type 0) → OnOk r P → OnOk s P)
    → LeavesTablesIn version g a b r → LeavesTablesIn version g a b s
tables_as on_ok leaves = record {
  open_on_ok = λ clean. on_ok _ (leaves.open_on_ok clean);
  was_open = leaves.was_open;
  same = λ clean t held. on_ok _ (leaves.same clean t held);
  kept = leaves.kept;
  mode = leaves.mode;
  survives = leaves.survives;
}

-- a reader of the tables that were found
pub found_then : {S Y E F : Type 0} {r : Result Y F} {g : Ghosts S} {a b c : Held S}
    {found : Found} → (HasCleanDisk (state g b) → IsAdopted (state g a).now (Ok found))
    → LeavesFile {E = E} (Unit {0}) g a b (Ok found)
    → LeavesFile (HoldsSomeTables (state g b).now) g b c r → LeavesFile (Unit {0}) g a c r
found_then {g = g} {a = a} {b = b} {found = found} adopts first later =
    file_then first later
    (λ clean _ same. let adopted = adopts clean in
    some_still g a b (found.version, tables_of found adopted.0, adopted.2) same)

-- ---- tables brought up to version 2

module _ {S A E : Type 0} (g : Ghosts S) (found : Found) (old new : Held S) (r : Result A E) where
  pub brought_clean : (v : Version) → Migrated v g found old new r → HasCleanDisk (state g new)
      → HasCleanDisk (state g old)
  brought_clean One ran = ran.clean
  brought_clean Two left = subst (λ h. HasCleanDisk (state g h)) left.1

  pub brought_rests : (v : Version) → Migrated v g found old new r → old.in_transaction ≡ false
      → new.in_transaction ≡ false
  brought_rests One ran rests = ran.rests
  brought_rests Two left rests = subst (λ h. h.in_transaction ≡ false) (sym left.1) rests

  pub brought_tables : (v : Version) → Migrated v g found old new r → HasCleanDisk (state g new)
      → (batches : List Batch) → HoldsTablesIn v (state g old).now (tables_of found batches)
      → OnOk r (HoldsTables (state g new).now (tables_of found batches))
  brought_tables One ran clean batches held =
      on_ok_weaker r (λ done. (done.related batches held).0) (ran.done clean)
  brought_tables Two left clean batches held =
      OnOk_any r (subst (λ h. HoldsTables (state g h).now (tables_of found batches)) (sym left.1)
      held)

  pub brought_same : (v : Version) → Migrated v g found old new r → v ≡ Two → new ≡ old
  brought_same One ran is = absurd (cc)
  brought_same Two left is = left.1

  pub brought_committed : (v : Version) → Migrated v g found old new r
      → HasCleanDisk (state g new) → IsCommitted (state g old) → OnOk r (IsCommitted (state g new))
  brought_committed One ran clean was =
      on_ok_weaker r (λ done. (done.is_open, done.committed)) (ran.done clean)
  brought_committed Two left clean was =
      OnOk_any r (subst (λ h. IsCommitted (state g h)) (sym left.1) was)

  pub brought_undone : (v : Version) → Migrated v g found old new r → HasCleanDisk (state g new)
      → OnErr r (Undone (state g old) (state g new))
  brought_undone One ran clean = ran.undone clean
  brought_undone Two left clean = on_err_weaker r (λ never. absurd never) left.0

  pub brought_survives : (v : Version) → Migrated v g found old new r
      → Survives (state g old) (state g new) (λ trees. (v ≡ One)
      × (IsTrue (state g old).is_open → (batches : List Batch)
      → HoldsTablesIn v (state g old).now (tables_of found batches)
      → HoldsTables (found_in trees) (tables_of found batches) × IsDatabase (found_in trees)))
  brought_survives One ran =
      survives_weaker (state g old) (state g new) _ _ (λ k trees made. (
        refl,
        λ opened batches held.
            let it = made batches held in
            (it.0, it.1 (ran.sound k opened)),
      )) ran.survives
  brought_survives Two left =
      survives_weaker (state g old) (state g new) _ _ (λ _ trees none. absurd none)
      (subst (λ h. Survives (state g old) (state g h) (λ _. ⊥)) (sym left.1)
      (survives_same (state g old)))

-- ---- an office that is found

-- ascending numbers are different, two by two
two_by_two : {X : Type 0} (R : X → X → Type 0) (xs : List X) → IsAscending R xs → AllPairs R xs
two_by_two R [] up = λ i j d before within. absurd (omega (arith, within))
two_by_two R (x ∷ xs) up =
    AllPairs-cons R x xs (All-from_recursion (R x) xs up.0) (two_by_two R xs up.1)

module _ (db : Database) (found : Found) (batches : List Batch)
    (rows : map counts_of batches ≡ found.batches.items)
    (held : HoldsTablesIn found.version db (tables_of found batches)) where
  pub found_batches : All IsShort batches → AreFoundBatches found.batches.items batches
  found_batches short = record {
    rows = rows;
    apart = two_by_two (λ (b c : Batch). b.no ≢ c.no) batches
        (keys_once batch_columns (λ (b : Batch). b.no) (λ b. refl) batches
        (db.trees 14) (held_at 9 held));
    short = short;
  }

  -- the tables that were found represent each office that the database represents
  module _ (o : OfficeState) (there : HoldsOffice db o) where
    kept : RepresentsOfficeIn found.version db o
    kept = subst (λ version. RepresentsOfficeIn version db o)
        (one_version there.0 found.version (sym there.1.tables.schema ∙ held.schema)) there.1

    same_office : TablesRepresentOffice (tables_of found batches) o
    same_office =
        same_represents_in found.version db kept.held (tables_of found batches) kept.tables held o
        kept.represents

    -- tables of version 2 with the same rows represent this office
    pub kept_after : (new : Database) → HoldsTables new (tables_of found batches)
        → RepresentsOffice new o
    kept_after new represents = record {
      held = tables_of found batches;
      tables = represents;
      represents = same_office;
      sound = same_sound_in found.version db kept.held (tables_of found batches) kept.tables held o
          kept.sound;
      office = kept.office;
    }

    -- its batches are not too long
    pub none_long : All IsShort batches
    none_long = stored_short (tables_of found batches) o same_office kept.office

    -- tables of version 1 have no weight for exams over night
    weighs : HasNoNightWeightIn found.version (memory_of o)
    weighs = subst (λ version. HasNoNightWeightIn version (memory_of o))
        (one_version there.0 found.version (sym there.1.tables.schema ∙ held.schema)) there.2

    -- nor has the memory of the tables that were found
    pub none_weighed : (memory : Memory) → (AreFoundBatches found.batches.items batches
        → (office : OfficeState) × TablesRepresentOffice (tables_of found batches) office
        × IsSound (tables_of found batches) office × IsOffice office
        × (memory_of office ≡ memory))
        → HasNoNightWeightIn found.version memory
    none_weighed memory office_of =
        let is = office_of (found_batches none_long) in
        let same = same_memory_in found.version db o is.0 kept (record {
          held = tables_of found batches;
          tables = held;
          represents = is.1;
          sound = is.2;
          office = is.3;
        }) in
        subst (HasNoNightWeightIn found.version) (same ∙ is.4) weighs

    pub none_refused : ((office : OfficeState)
        → TablesRepresentOffice (tables_of found batches) office
        → IsSound (tables_of found batches) office → IsOffice office → ⊥) → ⊥
    none_refused none =
        none o same_office
        (same_sound_in found.version db kept.held (tables_of found batches) kept.tables held o
        kept.sound)
        kept.office

-- all was committed before the reading
pub undone_reading : (a b : State) → IsAtRest a → Keeps a b
    → Undone a b
undone_reading a b settled keeps = record {
  was_open = keeps.was_open;
  now = λ opened. elim (keeps.now opened) [
    | inl same ↦ same ∙ settled (keeps.was_open opened)
    | inr back ↦ back
  ];
  committed = keeps.committed;
}

-- a later failure leaves what was committed
pub undone_after : {S : Type 0} (g : Ghosts S) (old mid new : Held S)
    → (mid ≡ old) ⊎ IsUnchanged (state g old) (state g mid) → Undone (state g mid) (state g new)
    → Undone (state g old) (state g new)
undone_after g old mid new (inl same) undone =
    subst (λ h. Undone (state g h) (state g new)) same undone
undone_after g old mid new (inr still) undone = record {
  was_open = λ opened. still.0.was_open;
  now = λ opened. undone.now opened ∙ still.0.committed_is;
  committed = λ opened. undone.committed opened ∙ still.0.committed_is;
}

-- an office that was found is represented by its tables in version 2
pub taken_over : (old new : Database) (found : Found) (memory : OfficeMemory)
    (is : IsFoundOffice old found memory) → HoldsTables new (tables_of found is.batches)
    → DatabaseUpgraded old new
taken_over old new found memory is represents = record {
  office = is.office;
  stood = (found.version, is.kept, is.weighs);
  represents = λ there holds.
      kept_after old found is.batches is.counted is.tables there holds new represents;
}

-- ---- what a later opening may find

module _ {S : Type 0} (g : Ghosts S) (old mid new : Held S) (found : Found) (memory : OfficeMemory)
    (result : Result (Held S) (StoreFault × Held S))
    (unrefused : IfErr result (λ refused. refused.0 ≡ Store))
    (clean : HasCleanDisk (state g new) → HasCleanDisk (state g mid))
    (same : HasCleanDisk (state g mid) → (mid ≡ old) ⊎ IsUnchanged (state g old) (state g mid))
    (is_open : HasCleanDisk (state g mid) → IsTrue (state g mid).is_open)
    (is : HasCleanDisk (state g mid) → IsFoundOffice (state g old).now found memory) where
  migrated : HasCleanDisk (state g new) → (trees : Trees) → found.version ≡ One
      → (IsTrue (state g mid).is_open → (batches : List Batch)
      → HoldsTablesIn found.version (state g mid).now (tables_of found batches)
      → HoldsTables (found_in trees) (tables_of found batches) × IsDatabase (found_in trees))
      → MayMigrate (state g old) result trees
  migrated clean_new trees before represents =
      let clean_mid = clean clean_new in
      let found_so = is clean_mid in
      let held = held_still g old mid found.version (tables_of found found_so.batches)
      (same clean_mid) found_so.tables in
      let made = represents (is_open clean_mid) found_so.batches held in (
        subst (λ version. (state g old).now.schema ≡ schema_of version) before
            found_so.tables.schema,
        unrefused,
        taken_over (state g old).now (found_in trees) found memory found_so made.0,
        made.1,
      )

  pub may_migrate : Survives (state g old) (state g mid) (λ _. ⊥)
      → Survives (state g mid) (state g new) (λ trees. (found.version ≡ One)
      × (IsTrue (state g mid).is_open → (batches : List Batch)
      → HoldsTablesIn found.version (state g mid).now (tables_of found batches)
      → HoldsTables (found_in trees) (tables_of found batches) × IsDatabase (found_in trees)))
      → Survives (state g old) (state g new) (MayMigrate (state g old) result)
  may_migrate read brought =
      survives_then (state g old) (state g mid) (state g new) (λ _. ⊥) _
      (MayMigrate (state g old) result) (λ _ trees none. absurd none)
      (λ clean_new trees made. migrated clean_new trees made.0 made.1) read brought

-- ---- a database without an open transaction

module _ {S : Type 0} (g : Ghosts S) (old new : Held S)
    (same : (new ≡ old) ⊎ IsUnchanged (state g old) (state g new)) where
  -- an open database is still open
  pub open_still : IsTrue (state g old).is_open → IsTrue (state g new).is_open
  open_still opened = elim same [
    | inl is ↦ subst (λ h. IsTrue (state g h).is_open) (sym is) opened
    | inr still ↦ still.0.is_open
  ]

  -- and all is committed
  pub awake_still : IsAtRest (state g old)
      → IsTrue (state g new).is_open → IsCommitted (state g new)
  awake_still settled opened = elim same [
    | inl is ↦ (
      opened,
      subst (λ h. (state g h).now ≡ (state g h).committed) (sym is)
          (settled (subst (λ h. IsTrue (state g h).is_open) is opened)),
    )
    | inr still ↦ (
      opened,
      still.0.now_is ∙ settled still.0.was_open ∙ sym still.0.committed_is,
    )
  ]
