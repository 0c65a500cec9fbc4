-- A database holds an office, or tables of others.
use Rattle.std.specs.Prelude.{◌≡◌, ◌⊎◌, IsTrue}
use Rattle.sqlite.specs.Effect.{Database}
use Rattle.sqlite.specs.Held.{Held, state}
use Rattle.sqlite.specs.State.{HasCleanDisk, Survives}
use Rattle.sqlite.specs.Store.{Ghosts}
use Rattle.office_model.specs.Office.{OfficeState}
use Rattle.office_model.specs.declared.fault.StoreFault.{StoreFault}
use Rattle.office_model.specs.declared.fault.StoreFault.TheVariants.{BadSchema, Store}

-- the database holds an office, and this is true of each that it may be
pub record OfOffice (Holds P : OfficeState → Type 0) : Type 0 where
  pub there : OfficeState
  pub stood : Holds there
  pub of : (office : OfficeState) → Holds office → P office

-- the database holds no office
abbrev pub HasNone : (Database → OfficeState → Type 0) → Database → Type 0
HasNone Holds db = (there : OfficeState) → Holds db there → ⊥

-- a database without an office was left as it was, if nothing in it was uncommitted, also by a
-- crash; the fault is that it has none, or that a statement failed
pub record LeavesForeign {S : Type 0} (store : Ghosts S) (before after : Held S)
    (of : StoreFault) : Type 0 where
  pub fault : (of ≡ BadSchema) ⊎ (of ≡ Store)
  pub unchanged : ((state store before).now ≡ (state store before).committed)
      → IsTrue (state store after).is_open → (state store after).now ≡ (state store before).now
  pub survives : Survives (state store before) (state store after) (λ _. ⊥)

-- the same, if the database holds no office and the disk returns what was written
abbrev pub LeavesIfForeign : {S : Type 0} → Ghosts S → (Database → OfficeState → Type 0)
    → (before after : Held S) → StoreFault → Type 0
LeavesIfForeign store Holds before after of =
    HasCleanDisk (state store after) → HasNone Holds (state store before).now
    → LeavesForeign store before after of
