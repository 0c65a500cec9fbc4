-- Facts of a database that a task opened and gave back.
use Rattle.std.proofs.Common.{◌∙◌, Bool, Err, IfErr, IfOk, List, Ok, Option, Result, inr, ℕ}
use Rattle.sqlite.specs.Held.{Held}
use Rattle.sqlite.specs.Store.{Ghosts}
use Rattle.office_messages.specs.Visits.{Visit}
use Rattle.office_program.specs.Databases.{IsAt, KeepsOthers, KnownBase, ServesIn, ServesNamed, ServesOpened, UsesDatabase}
use Rattle.office_program.specs.declared.ending.Ending.{Ending}
use Rattle.office_program.specs.declared.faults.ProgramFault.{ProgramFault}
use Rattle.office_program.specs.declared.words.Terms.{Terms}

-- what keeps all other databases twice keeps them
pub others_kept : {C : Type 0} (database : List ℕ) (old mid new : List ℕ → KnownBase C)
    → KeepsOthers database old mid → KeepsOthers database mid new → KeepsOthers database old new
others_kept database old mid new first then other differs = then other differs ∙ first other differs

-- what an office that was opened served, whatever came of it
pub serves_in : {S : Type 0} (store : Ghosts S) (IsUnheard : Type 0)
    (AreTheirs : Bool → List Visit → Type 0) (terms : Terms) (errors_old errors_new : Option (List ℕ))
    (outcome : Result Ending ProgramFault) (before after : Held S)
    → ServesOpened store AreTheirs terms errors_old errors_new outcome before after
    → ServesIn store IsUnheard AreTheirs terms errors_old errors_new outcome before after
serves_in store IsUnheard AreTheirs terms errors_old errors_new (Ok ending) before after x = x
serves_in store IsUnheard AreTheirs terms errors_old errors_new (Err shown) before after x = inr x

module _ {S : Type 0} (store : Ghosts S) (old new : List ℕ → KnownBase (Held S))
    (IsUnheard : Type 0) (AreOf : ℕ → Bool → List Visit → Type 0)
    (errors_old errors_new : Option (List ℕ))
    (outcome : Result Ending ProgramFault) (database : List ℕ) (terms : Terms)
    (before after : Held S) (opened : IsAt (old database) before)
    (given_back : IsAt (new database) after) (others : KeepsOthers database old new)
    (x : ServesIn store IsUnheard (AreOf terms.port) terms errors_old errors_new outcome before after) where
  used : UsesDatabase old new database
      (ServesIn store IsUnheard (AreOf terms.port) terms errors_old errors_new outcome)
  used = record {
    before = before;
    after = after;
    opened = opened;
    given_back = given_back;
    others = others;
    holds = x;
  }

-- a database that was opened and given back was served, whatever came of it
pub served_ok : {S : Type 0} (store : Ghosts S) (old new : List ℕ → KnownBase (Held S))
    (IsUnheard : Type 0) (AreOf : ℕ → Bool → List Visit → Type 0)
    (errors_old errors_new : Option (List ℕ))
    (outcome : Result Ending ProgramFault) (database : List ℕ) (terms : Terms)
    (before after : Held S) → IsAt (old database) before → IsAt (new database) after
    → KeepsOthers database old new
    → ServesIn store IsUnheard (AreOf terms.port) terms errors_old errors_new outcome before after
    → IfOk outcome (λ ending.
    ServesNamed store old new IsUnheard AreOf errors_old errors_new (Ok ending) database terms)
served_ok store old new IsUnheard AreOf errors_old errors_new (Ok ending) database terms before after
    opened given_back others x =
    used store old new IsUnheard AreOf errors_old errors_new (Ok ending) database terms before after opened
    given_back others x
served_ok store old new IsUnheard AreOf errors_old errors_new (Err shown) database terms before after
    opened given_back others x = tt

pub served_err : {S : Type 0} (store : Ghosts S) (old new : List ℕ → KnownBase (Held S))
    (IsUnheard : Type 0) (AreOf : ℕ → Bool → List Visit → Type 0)
    (errors_old errors_new : Option (List ℕ))
    (outcome : Result Ending ProgramFault) (database : List ℕ) (terms : Terms)
    (before after : Held S) → IsAt (old database) before → IsAt (new database) after
    → KeepsOthers database old new
    → ServesIn store IsUnheard (AreOf terms.port) terms errors_old errors_new outcome before after
    → IfErr outcome (λ shown.
    ServesNamed store old new IsUnheard AreOf errors_old errors_new (Err shown) database terms)
served_err store old new IsUnheard AreOf errors_old errors_new (Ok ending) database terms before after
    opened given_back others x = tt
served_err store old new IsUnheard AreOf errors_old errors_new (Err shown) database terms before after
    opened given_back others x =
    inr (used store old new IsUnheard AreOf errors_old errors_new (Err shown) database terms before after
    opened given_back others x)
