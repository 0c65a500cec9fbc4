-- The office that a database represents after clients were served, and the lines that were printed.
use Rattle.std.specs.Prelude.{◌≡◌, ◌≢◌, ◌<◌, ◌≤◌, ◌⊎◌, ℕ, Bool, false, true, IfErr, IfOk, IsTrue}
use Rattle.std.specs.Prelude.{List, [], MatchBool, None, Option, Result, Ok, Err, Some}
use Rattle.std.specs.Io.KnownBytes.{Keeps}
use Rattle.sqlite.specs.Held.{Held, state}
use Rattle.sqlite.specs.State.{HasCleanDisk}
use Rattle.sqlite.specs.Store.{Ghosts}
use Rattle.office_connections.specs.Clients.{AreOfClients, ServesClients}
use Rattle.office_connections.specs.Lines.{IsPortOf, PrintsPort, PrintsFaults, listening_line}
use Rattle.office_output.specs.Writing.{WritesFront}
use Rattle.office_connections.specs.declared.accepting.Service.{Service}
use Rattle.office_http.specs.Clients.{ServesAllByView}
use Rattle.office_http.specs.Replying.{Answered}
use Rattle.office_http.specs.Serving.{LeadsOffice}
use Rattle.office_messages.specs.Visits.{ServesVisits, Visit}
use Rattle.office_messages.specs.declared.statuses.Status.{Status}
use Rattle.office_messages.specs.declared.statuses.Status.TheVariants.{Created, Done}
use Rattle.office_model.specs.declared.fault.StoreFault.{StoreFault}
use Rattle.office_model.specs.declared.fault.StoreFault.TheVariants.{Store}
use Rattle.office_program.specs.declared.faults.ProgramFault.{ProgramFault}
use Rattle.office_program.specs.declared.faults.ProgramFault.TheVariants as fault
use Rattle.office_program.specs.declared.ending.Ending.{Ending}
use Rattle.office_program.specs.declared.words.Terms.{Terms}
use Rattle.office_program.specs.Foreign.{HasNone, OfOffice}
use Rattle.office_store.specs.Faults.{IsOfDatabase}
use Rattle.office_store.specs.Opening.{IsOfficeOf}
use Rattle.office_store.specs.Leaving.{LeavesAsItWas, LeavesOpened, MayOpen}
use Rattle.office_store.specs.Running.{IsCommitted, Represents}
use Rattle.office_store.specs.Shut.{IsShut}

-- ---- whether a store is closed

-- assuming the disk returns what was written, a failed disk call has closed the store
abbrev pub IsStoreShut : {S : Type 0} → Ghosts S → Held S → Type 0
IsStoreShut store held = HasCleanDisk (state store held) → IsShut (state store held)

-- asked whether its store is closed, a desk says so, and changes and commits nothing; assuming the
-- disk returns what was written, what it says is true
pub record SaysWhetherShut {S : Type 0} (store : Ghosts S) (old : Held S)
    (said : Result Bool StoreFault) (new : Held S) : Type 0 where
  pub right : HasCleanDisk (state store new) → IfOk said (λ is_shut.
      MatchBool is_shut (IsShut (state store new)) (IsCommitted (state store new)))
  pub leaves : LeavesAsItWas store old new

-- a store counts as closed if that was said, and not if it couldn't be found out
abbrev pub is_said_shut : Result Bool StoreFault → Bool
is_said_shut (Ok is_shut) = is_shut
is_said_shut (Err fault) = false

-- after a request that was done the store is open; after any other the desk is asked
abbrev pub AsksWhetherShut : {D : Type 0} → (D → Result Bool StoreFault → D → Type 0)
    → Status → D → Bool → D → Type 0
AsksWhetherShut says Done old is_shut new = (is_shut ≡ false) × (new ≡ old)
AsksWhetherShut says Created old is_shut new = (is_shut ≡ false) × (new ≡ old)
AsksWhetherShut says other old is_shut new =
    (said : Result Bool StoreFault) × says old said new × (is_shut ≡ is_said_shut said)

-- ---- the clients

-- the desk served these connections, one after another, and each message was answered as `reply`
-- says; assuming the disk returns what was written, the office served them, and each candidate got the
-- text of their view
pub record OfficeServes {S : Type 0} (store : Ghosts S) (old new : Held S) (visits : List Visit)
    : Type 0 where
  pub answered : ServesVisits (Answered store) visits old new
  pub leads : LeadsOffice store (ServesAllByView visits) old new

-- the office that a database held was opened: the tables represent it in version 2, and all is
-- committed, assuming the disk returns what was written; a later opening may find what it might have
-- found before, or what opening makes of the tables
pub record IsOpened {S : Type 0} (store : Ghosts S) (before found : Held S) : Type 0 where
  pub holds : HasCleanDisk (state store found)
      → OfOffice (IsOfficeOf (state store before).now) (Represents (state store found))
  pub leaves : LeavesOpened store MayOpen before (Ok found)

-- the office of a database could not be opened: a statement failed, or, assuming the disk returns
-- what was written, it holds none; its tables are as they were, and so is what a later opening may
-- find, but for what opening makes of the tables
pub record IsUnopened {S : Type 0} (store : Ghosts S) (before after : Held S)
    (shown : ProgramFault) : Type 0 where
  pub of : StoreFault
  pub is : shown ≡ fault.Store of
  pub fault : IsOfDatabase of
  pub none : HasCleanDisk (state store after)
      → (of ≡ Store) ⊎ HasNone IsOfficeOf (state store before).now
  pub leaves : LeavesOpened store MayOpen before (Err (of, after))

module _ {N I R W : Type 0} (opens : N → Option I → N → Type 0) (closes : N → I → N → Type 0)
    (accepts : I → Option (R × W) → I → Type 0) (takes_back : I → W → I → Type 0)
    (remaining : R → Option (List ℕ)) (contents : W → Option (List ℕ)) (old new : N) where
  -- a port was listened on; the connections are those of its clients, to whom the writers were
  -- handed back; then the clients were given back, of whom this is the last state
  pub record CameTo (has_failed : Bool) (visits : List Visit) : Type 0 where
    pub first : I
    pub during : N
    pub opened : opens old (Some first) during
    pub last : I
    pub theirs : AreOfClients accepts takes_back remaining contents first last has_failed visits
    pub closed : closes during last new

  -- the connections are those of the clients of the port, of whom there is none if it could not be
  -- listened on
  abbrev pub AreOfPort : Bool → List Visit → Type 0
  AreOfPort false visits = CameTo false visits
  AreOfPort true visits = (opens old None new × (visits ≡ [])) ⊎ CameTo true visits

-- the connections are those of the clients of this port of the machine
abbrev pub AreOfPorts : {N I R W : Type 0} → (opens : N → ℕ → Option I → N → Type 0)
    → (closes : N → I → N → Type 0) → (accepts : I → Option (R × W) → I → Type 0)
    → (takes_back : I → W → I → Type 0) → (remaining : R → Option (List ℕ))
    → (contents : W → Option (List ℕ)) → (old new : N) → ℕ → Bool → List Visit → Type 0
AreOfPorts opens closes accepts takes_back remaining contents old new port =
    AreOfPort (λ before. opens before port) closes accepts takes_back remaining contents old new

-- an opened office serves nobody if memory runs out for its routes, or the port can't be printed
abbrev pub IsUnserved : ProgramFault → Type 0
IsUnserved shown = (shown ≡ fault.NoMemory) ⊎ (shown ≡ fault.CannotWrite)

-- as many clients were served as the terms say; or nobody was, for want of memory or because the
-- port could not be printed; or fewer were, because listening or an accept failed; or the store is
-- closed after the last
pub record ServesTerms (AreTheirs : Bool → List Visit → Type 0) (Serve : List Visit → Type 0)
    (IsClosed : Type 0) (terms : Terms) (outcome : Result Ending ProgramFault)
    (errors_old errors_new : Option (List ℕ)) : Type 0 where
  pub service : Service
  pub most : service.accepted ≤ terms.connections
  pub serves : ServesClients AreTheirs Serve service errors_old errors_new
  pub all : IfOk outcome (λ ending. (service.accepted ≡ terms.connections)
      × (serves.has_failed ≡ false) × (IsTrue ending.is_err_written → service.unwritten ≡ 0))
  pub fewer : IfErr outcome (λ shown.
      (IsUnserved shown × (service.accepted ≡ 0) × (serves.has_failed ≡ false))
      ⊎ (((shown ≡ fault.CannotListen) × IsTrue serves.has_failed
      × ((service.accepted ≡ 0) ⊎ (service.accepted < terms.connections)))
      ⊎ ((shown ≡ fault.Store Store) × (serves.has_failed ≡ false) × IsClosed)))

-- ---- the lines

-- the port of the terms is printed on `out`; `err` has the line of each connection's fault, unless
-- a write of it failed
pub record PrintsServed (terms : Terms) (old new errors_old errors_new : Option (List ℕ))
    (ending : Ending) : Type 0 where
  pub status : ending.status ≡ 0
  pub port : PrintsPort terms.port old new
  pub err_line :
      IsTrue ending.is_err_written → PrintsFaults terms.connections errors_old errors_new

-- after a fault of writing, a front of the port was printed; after another, `out` is unchanged, or
-- the port was printed
pub record LeavesPort (terms : Terms) (old new : Option (List ℕ)) (shown : ProgramFault)
    : Type 0 where
  pub other : shown ≢ fault.CannotWrite → Keeps old new ⊎ PrintsPort terms.port old new
  pub front : shown ≡ fault.CannotWrite
      → (port : ℕ) × IsPortOf terms.port port × WritesFront old new (listening_line port)
