-- The effect of a statement inside a transaction.
use Rattle.std.proofs.lemmas.Grind.{common_steps}
use Rattle.std.proofs.Common.{◌+◌, ◌<◌, ◌∷◌, [], take, get_or, length, ◌≡◌, ℕ, List, Ok, Result, arith, OnOk, IsTrue}
use Rattle.std.proofs.lemmas.List.{take_more}
use Rattle.sqlite_value.specs.Order.{Row}
use Rattle.sqlite.specs.declared.error.Error.{Error}
use Rattle.sqlite.specs.State.{State, HasCleanDisk, Executes}
use Rattle.std.proofs.lemmas.Result.{on_ok_weaker}
use Rattle.sqlite.proofs.StateLemmas.{survives_then}
use Rattle.office_tables.specs.Alterations.{IsWritten, after_all}
use Rattle.office_tables.specs.Tables.{Tables}
use Rattle.office_tables.specs.TablesHeld.{HoldsTables}
use Rattle.office_tables.specs.Steps.{IsUncommitted, HasRun, TablesBecome}
use Rattle.office_tables.proofs.ManyRows.{after_append}

-- a state that is clean now was clean before
pub clean_before : (old new : State) → IsUncommitted old new → HasCleanDisk new → HasCleanDisk old
clean_before old new w clean = omega (arith, w.survives.clean)

pub within_then : (a b c : State) → IsUncommitted a b → IsUncommitted b c → IsUncommitted a c
within_then a b c p q = grind (arith, common_steps, survives_then, clean_before)

pub within_same : (a : State) → IsUncommitted a a
within_same a = grind (arith, common_steps)

pub makes_then : (f g : Tables → Tables) (a b c : State) → TablesBecome f a b → TablesBecome g b c
    → TablesBecome (λ t. g (f t)) a c
makes_then f g a b c p q = (
  q.0,
  λ t h.
      let one = p.1 t h in
      let two = q.1 (f t) one.0 in
      (two.0, λ was. two.1 (one.1 was)),
)

-- if a statement has run, the tables have the change that it makes
pub changes_by : (f : Tables → Tables) (sql : List ℕ) (params : Row) (old new : State)
    (r : Result (Unit {0}) Error)
    → ((count : ℕ) (t : Tables) → HoldsTables old.now t → Executes sql params old new (Ok count)
    → IsWritten (f t) old.now new.now)
    → OnOk r (HasRun sql params old new) → OnOk r (TablesBecome f old new)
changes_by f sql params old new r step =
    on_ok_weaker r (λ ran. (ran.inside, λ t represents. step ran.count t represents ran.executed))

-- the same for two statements, one after the other
pub changes_by_two : {f : Tables → Tables} {sql : List ℕ} {params : Row} (more : List ℕ) (others : Row)
    (old mid new : State) (r : Result (Unit {0}) Error)
    → ((first second : ℕ) (t : Tables) → HoldsTables old.now t → Executes sql params old mid (Ok first)
    → Executes more others mid new (Ok second) → IsWritten (f t) old.now new.now)
    → IsUncommitted mid new
    → (HasCleanDisk mid → IsTrue old.in_transaction → HasRun sql params old mid)
    → (HasCleanDisk new → IsTrue mid.in_transaction → OnOk r (HasRun more others mid new))
    → HasCleanDisk new → IsTrue old.in_transaction → OnOk r (TablesBecome f old new)
changes_by_two more others old mid new r step within one two clean inside =
    let ran = one (clean_before mid new within clean) inside in
    on_ok_weaker r (λ last. (
      last.inside,
      λ t represents. step ran.count last.count t represents ran.executed last.executed,
    ))
    (two clean ran.inside)

-- ---- alterations, one after the other

pub after_more : {A : Type 0} (f : A → Tables → Tables) (xs : List A) (i : ℕ) (x : A) (t : Tables)
    → i < length xs → x ≡ get_or xs i x
    → after_all f (take (i + 1) xs) t ≡ f x (after_all f (take i xs) t)
after_more f xs i x t lt is = grind (arith, common_steps, take_more, after_append f (take i xs) (x ∷ []) t)
