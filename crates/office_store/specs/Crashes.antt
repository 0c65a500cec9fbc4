-- What a later opening finds after a crash.
use Rattle.std.specs.Prelude.{◌≡◌, ◌⊎◌, IfErr, IsTrue, Ok, Result}
use Rattle.sqlite.specs.Effect.{Database, IsDatabase}
use Rattle.sqlite.specs.State.{State}
use Rattle.office_model.specs.Commands.{CommandResult}
use Rattle.office_model.specs.Office.{OfficeState}
use Rattle.office_model.specs.declared.fault.StoreFault.{StoreFault}
use Rattle.office_model.specs.declared.fault.StoreFault.TheVariants.{Store}
use Rattle.office_store.specs.Opening.{IsOfficeOf}

-- a connection that was opened on trees that the first one may leave; as after every opening over a
-- clean disk, it is open, and its trees list its schema and obey it
pub record OpenedAfter (left opened : State) : Type 0 where
  pub is_open : IsTrue opened.is_open
  pub sound : IsDatabase opened.now
  pub may : left.may_leave opened.now.trees

-- the database is of the office before the command, or of the office after it unless it was refused
-- with a named fault
abbrev pub IsBeforeOrAfter : {A : Type 0} → (OfficeState → CommandResult A) → OfficeState
    → Result A StoreFault → Database → Type 0
IsBeforeOrAfter {A} command office result db =
    IsOfficeOf db office
    ⊎ (IfErr result (λ e. e ≡ Store) × (answer : A) × (next : OfficeState)
    × (command office ≡ Ok (answer, next)) × IsOfficeOf db next)
