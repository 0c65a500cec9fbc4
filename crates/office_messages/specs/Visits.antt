-- Connections, one after another.
use Rattle.std.specs.Prelude.{◌≡◌, ℕ, List, [], ◌∷◌, Option, Result, Ok, Err, IfOk, IfErr}
use Rattle.office_messages.specs.Reply.{PlainReply}
use Rattle.office_messages.specs.Serve.{Serves, ServesFront}
use Rattle.office_messages.specs.Stream.{PlainRequest}
use Rattle.office_messages.specs.declared.connection.Served.{Served}
use Rattle.office_messages.specs.declared.connection.ServeFault.{ServeFault}

-- a connection: the bytes of its reader, those of its writer before and after, and how it ended
pub record Visit : Type 0 where
  pub input : Option (List ℕ)
  pub before : Option (List ℕ)
  pub after : Option (List ℕ)
  pub ended : Result Served ServeFault

-- the fault that a connection ended with, in front of others
abbrev pub with_fault : Result Served ServeFault → List ServeFault → List ServeFault
with_fault (Ok served) faults = faults
with_fault (Err fault) faults = fault ∷ faults

-- the faults that connections ended with, in their order
abbrev pub faults_of : List Visit → List ServeFault
faults_of [] = []
faults_of (v ∷ vs) = with_fault v.ended (faults_of vs)

module _ {S : Type 0} (Answers : S → PlainRequest → PlainReply → S → Type 0) where
  -- the machine served the connection, to its end or up to its fault
  abbrev pub ServesVisit : Visit → S → S → Type 0
  ServesVisit v old new =
      IfOk v.ended (λ served. Serves Answers v.input v.before v.after old new served)
      × IfErr v.ended (λ fault. ServesFront Answers v.input v.before v.after old new fault)

  -- the machine served these connections, one after another
  abbrev pub ServesVisits : List Visit → S → S → Type 0
  ServesVisits [] old new = new ≡ old
  ServesVisits (v ∷ vs) old new = (mid : S) × ServesVisit v old mid × ServesVisits vs mid new
