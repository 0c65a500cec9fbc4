-- Whether the store is closed, by the result of a statement.
use Rattle.std.proofs.Common.{◌≡◌, ◌∙◌, ℕ, Bool, true, false, List, Option, Some, None, Result, Ok, [], Err, IfErr, IfOk, IsTrue, inl, inr, subst, sym}
use Rattle.std.specs.Prelude.{MatchBool}
use Rattle.std.specs.Result.{result_err}
use Rattle.std.proofs.lemmas.Bool.{false_from_ne_true}
use Rattle.std.proofs.lemmas.Option.{same_Some}
use Rattle.sqlite_trees.specs.declared.error.StoreError.{StoreError}
use Rattle.sqlite_trees.specs.declared.error.StoreError.TheVariants.{OutOfMemory, Io, Corrupt, Full, Broken, Unstorable}
use Rattle.sqlite_value.specs.Order.{Row}
use Rattle.sqlite.specs.declared.error.Error.{Error}
use Rattle.sqlite.specs.declared.error.Error.TheVariants.{SqliteFailure}
use Rattle.sqlite.specs.declared.error.ErrorCode.TheVariants.{Closed}
use Rattle.sqlite.specs.Outline.{Outline}
use Rattle.sqlite.specs.State.{State, HasCleanDisk, HasCause, IsNoStatement, IsNotRun, IsUnchanged, store_error}
use Rattle.office_model.specs.declared.fault.StoreFault.{StoreFault}
use Rattle.office_store.specs.Running.{IsAtRest, IsCommitted, StateUnchanged}
use Rattle.office_store.specs.Shut.{IsShut}

-- a store that was closed before is closed afterwards
shut_on : (a b : State) → (IsTrue b.is_open → IsTrue a.is_open) → IsShut a → IsShut b
shut_on a b was_open shut = false_from_ne_true b.is_open
    (λ opened. let never : true ≡ false = sym (was_open opened) ∙ shut in absurd cc)

shut_by : (too_big : Type 0) (a b : State) (cause : StoreError)
    → SqliteFailure Closed ≡ store_error cause → HasCause a b too_big cause → IsShut a
shut_by too_big a b OutOfMemory is has = absurd cc
shut_by too_big a b Io is has = absurd cc
shut_by too_big a b Corrupt is has = absurd cc
shut_by too_big a b Full is has = absurd cc
shut_by too_big a b Broken is has = has
shut_by too_big a b Unstorable is has = absurd cc

no_statement : (a : State) (sql : List ℕ) (params : Row)
    → IsNoStatement a sql params (SqliteFailure Closed) → ⊥
no_statement a sql params (inl (fault, understood, is)) = absurd cc
no_statement a sql params (inr (c, understood, inl (long, is))) = absurd cc
no_statement a sql params (inr (c, understood, inr (inl (count, is)))) = absurd cc
no_statement a sql params (inr (c, understood, inr (inr (formats, is)))) = absurd cc

-- a statement that is refused with `Closed` met a closed store
pub shut_by_closed : (sql : List ℕ) (params : Row) (a b : State) (e : Error)
    → e ≡ SqliteFailure Closed → IsNotRun a b sql params e → IsShut b
unfolding IsNotRun
shut_by_closed sql params a b e is (inl h) =
    absurd (no_statement a sql params (subst (IsNoStatement a sql params) is h.0))
shut_by_closed sql params a b e is (inr h) =
    shut_on a b h.3.was_open (shut_by ⊥ a b h.0 (sym is ∙ h.1) h.2)

module _ (a b : State) (settled : IsAtRest a) (sql : List ℕ)
    (asked : Result Outline Error)
    (took : HasCleanDisk b → IfOk asked (λ s. (s.text ≡ sql) × IsUnchanged a b))
    (refused : HasCleanDisk b → IfErr asked (λ e. (params : Row) → IsNotRun a b sql params e)) where
  still_not_run : (params : Row) (e : Error) → IsNotRun a b sql params e → StateUnchanged a b
  unfolding IsNotRun
  still_not_run params e (inl h) opened = (h.1.0.was_open, h.1.0.now_is)
  still_not_run params e (inr h) opened =
      let was = h.3.was_open opened in (was, (h.3.undone opened).0 ∙ sym (settled was))

  still_by : (r : Result Outline Error) → IfOk r (λ s. (s.text ≡ sql) × IsUnchanged a b)
      → IfErr r (λ e. (params : Row) → IsNotRun a b sql params e) → StateUnchanged a b
  still_by (Ok s) x y opened = (x.1.0.was_open, x.1.0.now_is)
  still_by (Err e) x y opened = still_not_run [] e (y []) opened

  -- the statement changes nothing
  pub still_asked : HasCleanDisk b → StateUnchanged a b
  still_asked clean = still_by asked (took clean) (refused clean)

  -- a statement that succeeded met an open store
  awake_by : (r : Result Outline Error) → IfOk r (λ s. (s.text ≡ sql) × IsUnchanged a b)
      → None ≡ result_err r → IsCommitted b
  awake_by (Ok s) x is =
      (x.1.0.is_open, x.1.0.now_is ∙ settled x.1.0.was_open ∙ sym x.1.0.committed_is)
  awake_by (Err e) x is = absurd cc

  shut_because : (r : Result Outline Error)
      → IfErr r (λ e. (params : Row) → IsNotRun a b sql params e)
      → Some (SqliteFailure Closed) ≡ result_err r → IsShut b
  shut_because (Ok s) y is = absurd cc
  shut_because (Err e) y is = shut_by_closed sql [] a b e (sym (same_Some _ _ is)) (y [])

  pub returned_shut : (x : Option Error) → x ≡ result_err asked → (t : Result Bool StoreFault)
      → IfOk t (λ b. MatchBool b (x ≡ Some (SqliteFailure Closed)) (x ≡ None))
      → HasCleanDisk b → IfOk t (λ shut. MatchBool shut (IsShut b) (IsCommitted b))
  returned_shut x is (Err fault) h clean = tt
  returned_shut x is (Ok true) h clean = shut_because asked (refused clean) (sym h ∙ is)
  returned_shut x is (Ok false) h clean = awake_by asked (took clean) (sym h ∙ is)
