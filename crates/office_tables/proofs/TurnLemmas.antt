-- A whole transaction, from a connection at rest to its commit.
use Rattle.std.proofs.lemmas.Grind.{common_steps}
use Rattle.std.proofs.Common.{◌≡◌, ◌∙◌, inl, inr, refl, sym, subst, IsTrue, Result, OnOk, arith, true, false, []}
use Rattle.std.proofs.lemmas.Result.{on_ok_weaker}
use Rattle.sqlite.specs.declared.error.Error.{Error}
use Rattle.sqlite.specs.Effect.{Database}
use Rattle.sqlite.specs.Held.{Held, state}
use Rattle.sqlite.specs.State.{HasCleanDisk, KeepsCounts, Shows, Survives}
use Rattle.sqlite.specs.Steps.{FailsToCommit}
use Rattle.sqlite.specs.Store.{Ghosts}
use Rattle.sqlite.proofs.StateLemmas.{survives_then, survives_weaker}
use Rattle.sqlite_trees.specs.Tree.{Trees}
use Rattle.office_tables.specs.Alterations.{Committed, IsWritten, TablesChanged, TransactionRan, Undone, found_in}
use Rattle.office_tables.specs.TablesHeld.{HoldsTables}
use Rattle.office_tables.specs.Steps.{IsUncommitted}
use Rattle.office_tables.specs.Tables.{Tables}

-- a relation to the new database that asks only for the office's schema and for the rows
abbrev pub IsOfRows : (Database → Database → Type 0) → Type 0
IsOfRows Related =
    (old new : Database) (found : Trees) → found ≡ new.trees → Related old new
    → Related old (found_in found)

-- the trees of a database that holds these tables hold them too, under the office's schema
pub trees_hold : (db : Database) (found : Trees) (t : Tables) → found ≡ db.trees
    → HoldsTables db t → HoldsTables (found_in found) t
trees_hold db found t is held =
    subst (λ s. HoldsTables (record { schema = s; trees = found }) t) held.schema
    (subst (λ trees. HoldsTables (record { schema = db.schema; trees = trees }) t) (sym is) held)

-- and they list that schema and obey it
pub written_in : (old new : Database) (found : Trees) (t : Tables) → found ≡ new.trees
    → IsWritten t old new → IsWritten t old (found_in found)
written_in old new found t is made = grind (arith, common_steps, trees_hold)

pub changed_rows : (f : Tables → Tables) → IsOfRows (TablesChanged f)
changed_rows f old new found is made t held = written_in old new found (f t) is (made t held)

module _ {S : Type 0} (g : Ghosts S) (old begun last end : Held S)
    (begins : begun ≡ record old { in_transaction = true })
    (within : IsUncommitted (state g begun) (state g last))
    (survives : Survives (state g last) (state g end) (λ db. db ≡ (state g last).now.trees)) where
  last_clean : HasCleanDisk (state g end) → HasCleanDisk (state g last)
  last_clean clean = omega (arith, survives.clean, clean)

  module _ (Related : Database → Database → Type 0)
      (makes : HasCleanDisk (state g last) → IsTrue begun.in_transaction
      → IsTrue (state g last).in_transaction × Related (state g begun).now (state g last).now) where
    made : HasCleanDisk (state g last)
        → IsTrue (state g last).in_transaction × Related (state g old).now (state g last).now
    made clean =
        subst (λ h. IsTrue h.in_transaction → IsTrue (state g last).in_transaction
        × Related (state g h).now (state g last).now) begins (makes clean) refl

    -- after its commit
    pub done_by : (r : Result (Unit {0}) Error)
        → (HasCleanDisk (state g end) → OnOk r (IsTrue (state g last).in_transaction
        × Shows (state g last) (state g end) (state g last).now (state g last).now false
        × KeepsCounts (state g last) (state g end) × ((state g end).marks ≡ [])))
        → HasCleanDisk (state g end) → OnOk r (Committed Related (state g old) (state g end))
    done_by r ok clean = grind (arith, common_steps, on_ok_weaker)

    -- or after its failure
    pub undone_by : (e : Error) → FailsToCommit (state g last) (state g end) e
        → HasCleanDisk (state g end) → Undone (state g old) (state g end)
    undone_by e (inl fails) clean = grind (arith, common_steps)
    undone_by e (inr outside) clean =
        absurd (let never : true ≡ false = sym (made (last_clean clean)).0 ∙ outside.1 in cc)

    -- a later opening may find what is committed
    pub survives_by : IsOfRows Related → Survives (state g old) (state g end)
        (λ found. Related (state g old).now (found_in found))
    survives_by of_rows = grind (arith, common_steps, survives_then)

-- a relation that follows from another
pub ran_weaker : {S A E : Type 0} (g : Ghosts S) (old new : Held S) (result : Result A E)
    (P Q : Database → Database → Type 0) → ((a b : Database) → P a b → Q a b)
    → TransactionRan g P old new result → TransactionRan g Q old new result
ran_weaker g old new result P Q weaker ran = grind (arith, common_steps, on_ok_weaker, survives_weaker)
