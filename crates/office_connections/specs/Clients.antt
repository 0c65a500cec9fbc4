-- Clients that are served one after another.
use Rattle.std.specs.Prelude.{◌≡◌, ℕ, ◌<◌, ◌≤◌, ◌⊎◌, Bool, false, true, List, [], ◌∷◌, length, Option}
use Rattle.std.specs.Prelude.{None, Some, Result, IfOk, IfErr, IsTrue}
use Rattle.office_messages.specs.Reply.{PlainReply}
use Rattle.office_messages.specs.Stream.{PlainRequest}
use Rattle.office_messages.specs.Visits.{ServesVisit, Visit, faults_of}
use Rattle.office_connections.specs.Lines.{PrintsLines}
use Rattle.office_connections.specs.declared.accepting.Service.{Service}
use Rattle.office_connections.specs.declared.running.RunFault.{RunFault}
use Rattle.office_connections.specs.declared.running.RunFault.TheVariants.{Listen, Shut, Write}

module _ {I R W : Type 0} (accepts : I → Option (R × W) → I → Type 0)
    (takes_back : I → W → I → Type 0)
    (remaining : R → Option (List ℕ)) (contents : W → Option (List ℕ)) where
  -- the connection is that of the next client, and its writer was handed back at the end of its turn
  pub record IsNextConnection (old : I) (visit : Visit) (new : I) : Type 0 where
    pub from : R
    pub to : W
    pub during : I
    pub accepted : accepts old (Some (from, to)) during
    pub input : visit.input ≡ remaining from
    pub before : visit.before ≡ contents to
    pub written : W
    pub back : takes_back during written new
    pub after : visit.after ≡ contents written

  -- the connections are those of the clients that were accepted between the two states, in their
  -- order; no other was accepted, and the turn of each is over
  abbrev pub CameBetween : I → List Visit → I → Type 0
  CameBetween start [] last = last ≡ start
  CameBetween start (v ∷ vs) last =
      (mid : I) × IsNextConnection start v mid × CameBetween mid vs last

  -- the same, if after the last of them an accept failed, or if none did
  abbrev pub AreOfClients : I → I → Bool → List Visit → Type 0
  AreOfClients start new false visits = CameBetween start visits new
  AreOfClients start new true visits =
      (last : I) × CameBetween start visits last × accepts last None new

-- the machine served these connections, one after another, and was open before each of them
abbrev pub ServesWhileOpen : {S : Type 0} → (S → PlainRequest → PlainReply → S → Type 0)
    → (S → Bool) → S → S → List Visit → Type 0
ServesWhileOpen Answers is_shut old new [] = new ≡ old
ServesWhileOpen Answers is_shut old new (v ∷ vs) =
    (is_shut old ≡ false) × (mid : _) × ServesVisit Answers v old mid
    × ServesWhileOpen Answers is_shut mid new vs

-- clients were served, one after another, and the lines of the faults that ended connections were
-- printed, each whole or a front of it; after the last of them an accept failed, or not
pub record ServesClients (AreTheirs : Bool → List Visit → Type 0) (Serve : List Visit → Type 0)
    (service : Service) (errors_old errors_new : Option (List ℕ)) : Type 0 where
  pub visits : List Visit
  pub has_failed : Bool
  pub theirs : AreTheirs has_failed visits
  pub count : length visits ≡ service.accepted
  pub served : Serve visits
  pub printed : PrintsLines (faults_of visits) service.unwritten errors_old errors_new

-- the planned number of clients was served; or fewer, because an accept failed, or the machine is shut
pub record ServesPlanned (AreTheirs : Bool → List Visit → Type 0) (Serve : List Visit → Type 0)
    (is_shut : Bool) (connections : ℕ) (service : Service)
    (errors_old errors_new : Option (List ℕ)) : Type 0 where
  pub serves : ServesClients AreTheirs Serve service errors_old errors_new
  pub most : service.accepted ≤ connections
  pub all : serves.has_failed ≡ false → service.accepted < connections → IsTrue is_shut
  pub failed : IsTrue serves.has_failed → (service.accepted < connections) × (is_shut ≡ false)

-- the planned number of clients was served, and the machine is open; or the machine is shut; or
-- fewer were, because an accept failed; or none, because the port could not be printed
pub record ServesPlan (AreTheirs : Bool → List Visit → Type 0) (Serve : List Visit → Type 0)
    (is_shut : Bool) (connections : ℕ) (outcome : Result ℕ RunFault)
    (errors_old errors_new : Option (List ℕ)) : Type 0 where
  pub service : Service
  pub most : service.accepted ≤ connections
  pub serves : ServesClients AreTheirs Serve service errors_old errors_new
  pub all : IfOk outcome (λ unwritten. (service.accepted ≡ connections)
      × (service.unwritten ≡ unwritten) × (serves.has_failed ≡ false) × (is_shut ≡ false))
  pub fewer : IfErr outcome (λ fault. ((fault ≡ Write) × (service.accepted ≡ 0)
      × (serves.has_failed ≡ false))
      ⊎ (((fault ≡ Listen) × (service.accepted < connections) × IsTrue serves.has_failed
      × (is_shut ≡ false))
      ⊎ ((fault ≡ Shut) × (serves.has_failed ≡ false) × IsTrue is_shut)))
