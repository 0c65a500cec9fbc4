-- A command of an office, by what it makes of any office that a database represents.
use Rattle.std.proofs.Common.{◌⊎◌, inl, inr, ◌≡◌, Ok, Err, Result, None, ap, sym, subst, ◌∙◌}
use Rattle.sqlite.specs.Effect.{Database}
use Rattle.sqlite.specs.Held.{Held, state}
use Rattle.sqlite.specs.State.{HasCleanDisk}
use Rattle.sqlite.specs.Store.{Ghosts}
use Rattle.office_tables.specs.Alterations.{Committed, TablesChanged, TransactionRan}
use Rattle.office_tables.specs.Tables.{Tables}
use Rattle.office_tables.specs.TablesHeld.{HoldsTables}
use Rattle.office_model.specs.Office.{OfficeState}
use Rattle.office_records.specs.Representation.{RepresentsOffice}
use Rattle.office_model.specs.Commands.{CommandResult, renamed_fault}
use Rattle.office_model.specs.declared.fault.Refusal.{Refusal}
use Rattle.office_store.specs.FoldReads.{HasRead}
use Rattle.office_store.specs.Leaving.{LeavesUnchanged}
use Rattle.office_store.specs.Memory.{IsMemoryOf}
use Rattle.office_store.specs.Running.{CommandOutcome, MatchesMemory, IsCommitted, IsFault, StateUnchanged, Represents, QueryReturned, CommandRan, QueryOutcome, StaysOnErr, ReturnsValue}
use Rattle.office_model.specs.declared.fault.StoreFault.{StoreFault}
use Rattle.office_model.specs.declared.fault.StoreFault.TheVariants.{NotLoaded, Refused, Store}
use Rattle.office_store.specs.declared.memory.OfficeMemory.{OfficeMemory}
use Rattle.office_store.proofs.RunLemmas.{does_now, at_hand, nothing_kept, now_still, rest_still, still_read, still_then}

-- for each represented office with this memory, the command returns this and leads to another
abbrev pub Moves : {A : Type 0} → (OfficeState → CommandResult A) → A → Database → Database
    → OfficeMemory → Type 0
Moves command x a b m = (o : OfficeState) → RepresentsOffice a o → IsMemoryOf o m
    → (new : OfficeState) × (command o ≡ Ok (x, new)) × RepresentsOffice b new

-- for each represented office with this memory, the command is refused with this fault
abbrev pub Denies : {A : Type 0} → (OfficeState → CommandResult A) → StoreFault → Database
    → OfficeMemory
    → Type 0
Denies command fault a m = (o : OfficeState) → RepresentsOffice a o → IsMemoryOf o m
    → IsFault (command o) fault

-- this memory of the office before the command becomes that memory of the office after it
abbrev pub Remembers : {A : Type 0} → (OfficeState → CommandResult A) → A → Database → OfficeMemory
    → OfficeMemory → Type 0
Remembers command x a m n = (o : OfficeState) → RepresentsOffice a o → IsMemoryOf o m
    → (new : OfficeState) → command o ≡ Ok (x, new) → IsMemoryOf new n

-- the right value of an office that stays is a right outcome
pub shown : {A : Type 0} (expected : A) (o : OfficeState) (Stays : OfficeState → Type 0)
    (result : Result A StoreFault) → ReturnsValue expected result → Stays o
    → QueryOutcome expected o Stays result
shown expected o Stays (Ok x) is here = (is, here)
shown expected o Stays (Err fault) is here = (is, here)

-- the office stays if a check of the file changed nothing
pub stays_by : {S B F : Type 0} {r : Result B F} (g : Ghosts S) (before mid : Held S)
    → LeavesUnchanged g before mid r → HasCleanDisk (state g mid) → (o : OfficeState) → Represents
    (state g before) o
    → Represents (state g mid) o
stays_by g before mid leaves clean o =
    now_still (state g before) (state g mid) o (leaves.unchanged clean)

-- nothing is loaded
pub unloaded : {A : Type 0} (command : OfficeState → CommandResult A) {m : OfficeMemory}
    (o : OfficeState) → m.kept ≡ None → IsMemoryOf o m → command None ≡ Err NotLoaded
    → command o ≡ Err NotLoaded
unloaded command o none is gives = ap command (nothing_kept o (is.session ∙ none)) ∙ gives

-- out of memory, or a refusal of this kind
pub fault_of : {A B F : Type 0} (kind : F → Refusal) (judged : Result A F) (gives : CommandResult B)
    (e : StoreFault) → (e ≡ Store) ⊎ (renamed_fault (λ f. Refused (kind f)) judged ≡ Err e)
    → (renamed_fault (λ f. Refused (kind f)) judged ≡ Err e → gives ≡ Err e) → IsFault gives e
fault_of kind judged gives e (inl is) refuses = subst (IsFault gives) (sym is) tt
fault_of kind (Ok x) gives e (inr is) refuses = absurd cc
fault_of kind (Err f) gives e (inr is) refuses =
    let same : Refused (kind f) ≡ e = cc in
    subst (IsFault gives) same (refuses is ∙ ap Err (sym same))

-- a check of the file changes nothing; afterwards the office has this connection and this memory
module _ {S B F : Type 0} {x : B} {g : Ghosts S} {before mid inside : Held S} {m : OfficeMemory}
    (view : inside ≡ mid) (rest : MatchesMemory (state g inside) m)
    (looked : LeavesUnchanged {A = B} {E = F} g before mid (Ok x)) where
  -- the check changes nothing up to the connection in the office
  pub read_inside : LeavesUnchanged {A = B} {E = F} g before inside (Ok x)
  read_inside = subst (λ h. LeavesUnchanged {A = B} {E = F} g before h (Ok x)) (sym view) looked

  -- an office from before is still represented, and its session is in memory
  pub there_inside : HasCleanDisk (state g inside) → (o : OfficeState)
      → Represents (state g before) o → RepresentsOffice (state g inside).now o × IsMemoryOf o m
  there_inside k o now =
      let opened = (read_inside.all_committed k).0 in
      let here = stays_by g before inside read_inside k o now opened in
      (here, at_hand (state g inside) m o rest k opened here)

  there : HasCleanDisk (state g mid) → (o : OfficeState) → Represents (state g before) o
      → RepresentsOffice (state g mid).now o × IsMemoryOf o m
  there = subst (λ h. HasCleanDisk (state g h) → (o : OfficeState) → Represents (state g before) o
      → RepresentsOffice (state g h).now o × IsMemoryOf o m) view there_inside

  -- the result is the office's value
  pub returns_value : {A : Type 0} (expected : OfficeState → A) (result : Result A StoreFault)
      → (HasCleanDisk (state g mid) → (o : OfficeState) → RepresentsOffice (state g mid).now o
      → IsMemoryOf o m → ReturnsValue (expected o) result)
      → QueryReturned g expected before mid result
  returns_value expected result meaning k o now =
      let here = there k o now in
      shown (expected o) o (Represents (state g mid)) result (meaning k o here.0 here.1) (λ _. here.0)

  module _ {A : Type 0} (command : OfficeState → CommandResult A) where
    pub refuses : (fault : StoreFault)
        → (HasCleanDisk (state g mid) → Denies command fault (state g mid).now m)
        → CommandRan g command before mid (Err fault)
    refuses fault denies k o now = let here = there k o now in (denies k o here.0 here.1, λ _. here.0)

    pub refuses_unloaded : m.kept ≡ None → command None ≡ Err NotLoaded
        → CommandRan g command before mid (Err NotLoaded)
    refuses_unloaded none gives = refuses NotLoaded (λ k o kept is. unloaded command o none is gives)

    -- a command that only shows
    pub shows : (result : Result A StoreFault)
        → ((o : OfficeState) → IsMemoryOf o m → CommandOutcome (command o) o (λ new. new ≡ o) result)
        → CommandRan g command before mid result
    shows result does k o now =
        let here = there k o now in
        does_now (command o) o (Represents (state g mid)) result (does o here.1) (λ _. here.0)

  -- ---- further readers

  module _ {after : Held S} (read : HasRead g inside after) where
    still_inside : HasCleanDisk (state g after) → StateUnchanged (state g inside) (state g after)
    still_inside =
        still_read (state g inside) (state g after) m rest read.clean
        (λ k _. (read_inside.all_committed k).1) read.was_open read.kept

    pub rest_further : MatchesMemory (state g after) m
    rest_further = rest_still (state g inside) (state g after) m read.clean still_inside rest

    pub stays_further : {A : Type 0} (result : Result A StoreFault) → StaysOnErr g before after result
    stays_further (Ok y) k = tt
    stays_further (Err fault) k =
        still_then (state g before) (state g inside) (state g after)
        (read_inside.unchanged (read.clean k)) (still_inside k)

    -- the command is refused after them
    pub refuses_further : {A : Type 0} (command : OfficeState → CommandResult A) (fault : StoreFault)
        → (HasCleanDisk (state g after) → IsCommitted (state g inside)
        → Denies command fault (state g inside).now m)
        → CommandRan g command before after (Err fault)
    refuses_further command fault denies k o now =
        let here = there_inside (read.clean k) o now in (
          denies k (read_inside.all_committed (read.clean k)) o here.0 here.1,
          now_still (state g inside) (state g after) o (still_inside k) (λ _. here.0),
        )

-- the tables represented the same office before a call that only read and succeeded
pub represented : {S B F : Type 0} {x : B} {g : Ghosts S} {before mid : Held S}
    → LeavesUnchanged {A = B} {E = F} g before mid (Ok x) → HasCleanDisk (state g mid)
    → (o : OfficeState) → RepresentsOffice (state g mid).now o
    → RepresentsOffice (state g before).now o
represented leaves clean o =
    subst (λ db. RepresentsOffice db o) (leaves.unchanged clean (leaves.all_committed clean).0).1

-- a fact about each represented office holds inside the office
pub seen : {S : Type 0} (g : Ghosts S) {mid inside : Held S} → inside ≡ mid → {P : OfficeState → Type 0}
    → (HasCleanDisk (state g mid) → (o : OfficeState) → RepresentsOffice (state g mid).now o → P o)
    → HasCleanDisk (state g inside) → (o : OfficeState) → RepresentsOffice (state g inside).now o
    → P o
seen g view {P = P} =
    subst (λ h. HasCleanDisk (state g h) → (o : OfficeState) → RepresentsOffice (state g h).now o → P o)
    (sym view)

-- ---- a transaction that changes the tables

-- the tables have this change, whether their schema is listed or not
abbrev pub RowsChanged : (Tables → Tables) → Database → Database → Type 0
RowsChanged f old new = (t : Tables) → HoldsTables old t → HoldsTables new (f t)

-- any database whose tables have this change is of the office after the command
abbrev pub MovesBy : {A : Type 0} → (Tables → Tables) → (OfficeState → CommandResult A) → A → Database
    → OfficeMemory → Type 0
MovesBy f command x a m = (db : Database) → RowsChanged f a db → Moves command x a db m

-- the memory afterwards is that of the new office
pub rests : {S A U E : Type 0} {g : Ghosts S} {command : OfficeState → CommandResult A} {x : A}
    {r : Result U E} {inside after : Held S} {m n : OfficeMemory} {f : Tables → Tables}
    → MatchesMemory (state g inside) m → TransactionRan g (TablesChanged f) inside after r
    → (HasCleanDisk (state g after) → MovesBy f command x (state g inside).now m)
    → (HasCleanDisk (state g after) → Committed (TablesChanged f) (state g inside) (state g after))
    → (HasCleanDisk (state g after) → Remembers command x (state g inside).now m n)
    → MatchesMemory (state g after) n
rests {g = g} {after = after} rest ran moves done remembers k _ =
    let here = rest (ran.clean k) (done k).was_open in
    let moved = moves k (state g after).now (λ t held. ((done k).related t held).0) here.0 here.1 here.2 in
    (moved.0, moved.2, remembers k here.0 here.1 here.2 moved.0 moved.1)
