-- The effect of a step on a connection inside a transaction. The store describes a connection by
-- states: as it is now, as it was last committed, and what a crash leaves.
use Rattle.std.specs.Prelude.{ℕ, List, IsTrue, OnOk, Ok, Result}
use Rattle.sqlite_value.specs.Order.{Row}
use Rattle.sqlite.specs.declared.error.Error.{Error}
use Rattle.sqlite.specs.Effect.{Database, IsDatabase}
use Rattle.sqlite.specs.Held.{Held, state}
use Rattle.sqlite.specs.State.{State, Executes, HasCleanDisk, Survives, KeepsCommit}
use Rattle.sqlite.specs.Store.{Ghosts}
use Rattle.office_tables.specs.Tables.{Tables}
use Rattle.office_tables.specs.Alterations.{TablesChanged}

-- whatever the result: nothing is committed, and a crash leaves what it would have left before
pub record IsUncommitted (old new : State) : Type 0 where
  pub survives : Survives old new (λ _. ⊥)
  pub kept : HasCleanDisk new → KeepsCommit old new

-- the transaction continues; if the first property held before, the second holds now, and trees that
-- listed their schema and obeyed it still do
abbrev pub Establishes : (Database → Type 0) → (Database → Type 0) → State → State → Type 0
Establishes P Q old new =
    IsTrue new.in_transaction
    × (P old.now → Q new.now × (IsDatabase old.now → IsDatabase new.now))

-- the transaction continues, the tables have this change, and trees that listed their schema and
-- obeyed it still do
abbrev pub TablesBecome : (Tables → Tables) → State → State → Type 0
TablesBecome f old new =
    IsTrue new.in_transaction × TablesChanged f old.now new.now

-- a statement has run, and the transaction continues
pub record HasRun (sql : List ℕ) (params : Row) (old new : State) : Type 0 where
  pub count : ℕ
  pub executed : Executes sql params old new (Ok count)
  pub inside : IsTrue new.in_transaction

-- on a clean disk, inside a transaction: on `Ok` the connection has run the statement
abbrev pub StatementRan : {S : Type 0} → Ghosts S → List ℕ → Row
    → Held S → Held S → Result (Unit {0}) Error → Type 0
StatementRan store sql params old new result =
    HasCleanDisk (state store new) → IsTrue old.in_transaction
    → OnOk result (HasRun sql params (state store old) (state store new))

-- likewise: on `Ok` the step leads from the first property to the second
abbrev pub StepEstablishes : {S : Type 0} → Ghosts S → (Database → Type 0) → (Database → Type 0)
    → Held S → Held S → Result (Unit {0}) Error → Type 0
StepEstablishes store P Q old new result =
    HasCleanDisk (state store new) → IsTrue old.in_transaction
    → OnOk result (Establishes P Q (state store old) (state store new))

-- likewise: on `Ok` the tables have this change
abbrev pub Changes : {S : Type 0} → Ghosts S → (Tables → Tables)
    → Held S → Held S → Result (Unit {0}) Error → Type 0
Changes store f old new result =
    HasCleanDisk (state store new) → IsTrue old.in_transaction
    → OnOk result (TablesBecome f (state store old) (state store new))
