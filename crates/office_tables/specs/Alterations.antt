-- The effect of a transaction on the tables.
use Rattle.std.specs.Prelude.{◌≡◌, false, IsTrue, List, [], ◌∷◌, OnErr, OnOk, Option, None, Result, Some}
use Rattle.sqlite.specs.Effect.{Database, IsDatabase}
use Rattle.sqlite.specs.Held.{Held, state}
use Rattle.sqlite.specs.State.{HasCleanDisk, State, Survives}
use Rattle.sqlite.specs.Store.{Ghosts}
use Rattle.sqlite_trees.specs.Tree.{Trees}
use Rattle.office_tables.specs.Tables.{office_schema, Tables}
use Rattle.office_tables.specs.TablesHeld.{HoldsTables}

-- the new database has these tables; if the old trees listed their schema and obeyed it, so do the
-- new ones
abbrev pub IsWritten : Tables → Database → Database → Type 0
IsWritten t old new = HoldsTables new t × (IsDatabase old → IsDatabase new)

-- the tables have this change
abbrev pub TablesChanged : (Tables → Tables) → Database → Database → Type 0
TablesChanged f old new = (t : Tables) → HoldsTables old t → IsWritten (f t) old new

-- the database of a file with these trees and the office's schema
abbrev pub found_in : Trees → Database
found_in found = record { schema = office_schema; trees = found }

-- the database was open and still is; the old one and the new one are so related, and the new one is
-- committed
pub record Committed (Related : Database → Database → Type 0) (old new : State) : Type 0 where
  pub was_open : IsTrue old.is_open
  pub is_open : IsTrue new.is_open
  pub committed : new.now ≡ new.committed
  pub related : Related old.now new.now

-- the database is as the last commit left it
pub record Undone (old new : State) : Type 0 where
  pub was_open : IsTrue new.is_open → IsTrue old.is_open
  pub now : IsTrue new.is_open → new.now ≡ old.committed
  pub committed : IsTrue new.is_open → new.committed ≡ old.committed

-- a whole transaction: on an `Ok` it is committed, and the databases before and after it are so
-- related, on an `Err` it is undone; a later opening may find what it might have found before, or a
-- database so related to the old one
pub record TransactionRan {S A E : Type 0} (store : Ghosts S)
    (Related : Database → Database → Type 0) (old new : Held S) (result : Result A E)
    : Type 0 where
  pub done : HasCleanDisk (state store new)
      → OnOk result (Committed Related (state store old) (state store new))
  pub undone : HasCleanDisk (state store new)
      → OnErr result (Undone (state store old) (state store new))
  pub rests : new.in_transaction ≡ false
  pub clean : HasCleanDisk (state store new) → HasCleanDisk (state store old)
  -- if it was open, the old trees listed their schema and obeyed it
  pub sound : HasCleanDisk (state store new) → IsTrue (state store old).is_open
      → IsDatabase (state store old).now
  pub survives : Survives (state store old) (state store new)
      (λ found. Related (state store old).now (found_in found))

-- the tables after each alteration, one after the other
abbrev pub after_all : {A : Type 0} → (A → Tables → Tables) → List A → Tables → Tables
after_all alteration [] t = t
after_all alteration (a ∷ rest) t = after_all alteration rest (alteration a t)

-- the tables after an alteration, if there is one
abbrev pub after_some : {A : Type 0} → (A → Tables → Tables) → Option A → Tables → Tables
after_some alteration None t = t
after_some alteration (Some a) t = alteration a t
