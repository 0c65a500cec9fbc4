-- The office that a run of `serve` leads from and to.
use Rattle.std.specs.Prelude.{◌≡◌, ◌⊎◌, [], Bool, IsTrue, List, string_bytes, ℕ}
use Rattle.clap.specs.Words.{Text}
use Rattle.sqlite.specs.Held.{Held, state}
use Rattle.sqlite.specs.State.{State}
use Rattle.sqlite.specs.Store.{Ghosts}
use Rattle.office_http.specs.Clients.{ServesAllByView, all_entries}
use Rattle.office_http.specs.Transcripts.{Entry}
use Rattle.office_messages.specs.Visits.{Visit}
use Rattle.office_model.specs.Office.{OfficeState}
use Rattle.office_records.specs.Representation.{RepresentsOffice}
use Rattle.office_store.specs.Publications.{StoredAddUp}
use Rattle.office_program.specs.Databases.{IsAt, KnownBase}
use Rattle.office_program.specs.Program.{IsTask}
use Rattle.office_program.specs.declared.words.Task.{Task}
use Rattle.office_program.specs.declared.words.Task.TheVariants.{Check, CheckAll, CheckAs, Compare, Explain, Export, Load, Places, Serve}
use Rattle.office_program.specs.declared.words.Terms.{Terms}

-- the task is to serve the office in this database, on these terms
abbrev pub IsServe : Task → List ℕ → Terms → Type 0
IsServe (Serve database terms) path wanted = (string_bytes database ≡ path) × (terms ≡ wanted)
IsServe (Check instance solution) path wanted = ⊥
IsServe (CheckAs instance solution form) path wanted = ⊥
IsServe (CheckAll session solutions form) path wanted = ⊥
IsServe (Places instance solution exam) path wanted = ⊥
IsServe (Compare session before after) path wanted = ⊥
IsServe (Load database instance) path wanted = ⊥
IsServe (Export database) path wanted = ⊥
IsServe (Explain words) path wanted = ⊥

-- the words can only mean this
abbrev pub AsksToServe : List Text → List ℕ → Terms → Type 0
AsksToServe words path wanted = (task : Task) → IsTask words task → IsServe task path wanted

-- a connection that is known to be at a path is this one
abbrev pub HasOnly : {C : Type 0} → KnownBase C → C → Type 0
HasOnly {C} known conn = (found : C) → IsAt known found → conn ≡ found

-- while the store is open, its tables are those of the office, and the rows of shares in them add up
-- to the penalty of what is published
abbrev pub HoldsShares : State → OfficeState → Type 0
HoldsShares s office = IsTrue s.is_open → (kept : RepresentsOffice s.now office)
    × StoredAddUp office kept.held.share_student kept.held.share_part

-- an office served the clients of a port, each candidate got the text of their view, and the
-- database that is left holds the office that they led to; or nobody was served, and `IsUnheard`
pub record LedOffice {S : Type 0} (store : Ghosts S) (IsUnheard : Type 0)
    (AreTheirs : Bool → List Visit → Type 0) (after : Held S) (there : OfficeState) : Type 0 where
  pub visits : List Visit
  pub has_failed : Bool
  pub theirs : AreTheirs has_failed visits ⊎ ((visits ≡ []) × IsUnheard)
  pub next : OfficeState
  pub served : ServesAllByView visits there next
  pub left : HoldsShares (state store after) next ⊎ ((visits ≡ []) × IsUnheard)

-- the messages of its clients
abbrev pub entries_of : {S : Type 0} {store : Ghosts S} {IsUnheard : Type 0}
    {AreTheirs : Bool → List Visit → Type 0} {after : Held S} {there : OfficeState}
    → LedOffice store IsUnheard AreTheirs after there → List Entry
entries_of {there = there} led = all_entries led.visits there led.next led.served.0
