-- The effect of a reader.
use Rattle.std.proofs.lemmas.Grind.{common_steps}
use Rattle.std.proofs.Common.{inl, inr, ℕ, List, Some, None, Option, subst, ◌∙◌, arith}
use Rattle.sqlite_value.specs.Order.{Row}
use Rattle.sqlite.specs.declared.error.Error.{Error}
use Rattle.sqlite_schema.specs.declared.command.Returning.{Returning}
use Rattle.sqlite_resolve.specs.declared.compiled.Compiled.{Compiled}
use Rattle.sqlite.specs.Listing.{understood}
use Rattle.sqlite.specs.State.{State, Survives, IsUnchanged, IsRolledBack, IsNotRun, FailsToShow, FailsToQuery, Shown, ShowsRows, CommitsShowing}
use Rattle.sqlite.proofs.StateLemmas.{survives_weaker}
use Rattle.sqlite.proofs.Callers.{IsPlain}
use Rattle.office_tables.specs.Tables.{office_schema}
use Rattle.office_tables.specs.Readers.{Keeps}
use Rattle.office_tables.proofs.SilentLemmas.{commits_never}

pub kept_unchanged : (old new : State) → IsUnchanged old new → Keeps old new
kept_unchanged old new h =
    record { was_open = λ _. h.0.was_open; now = λ _. inl h.0.now_is; committed = λ _. h.0.committed_is; mode = λ m. h.0.mode ∙ m }

pub kept_undone : (old new : State) → IsRolledBack old new → Keeps old new
kept_undone old new h =
    record { was_open = h.was_open; now = λ o. inr (h.undone o).0; committed = λ o. (h.undone o).1; mode = λ _. h.autocommit }

kept_not_run : (sql : List ℕ) (params : Row) (old new : State) (e : Error)
    → IsNotRun old new sql params e → Keeps old new
unfolding IsNotRun
kept_not_run sql params old new e (inl h) = kept_unchanged old new h.1
kept_not_run sql params old new e (inr h) = kept_undone old new h.3

kept_unshown : (old new : State) (sql : List ℕ) (compiled : Compiled) (params : Row) (e : Error)
    (r : Option Returning)
    → FailsToShow old new sql compiled params e r → Keeps old new
kept_unshown old new sql compiled params e None h = kept_unchanged old new h.3
kept_unshown old new sql compiled params e (Some what) (inl h) = kept_unchanged old new h.1
kept_unshown old new sql compiled params e (Some what) (inr h) = kept_undone old new h.3

pub kept_failed : (sql : List ℕ) (params : Row) (old new : State) (e : Error)
    → FailsToQuery sql params old new e → Keeps old new
unfolding FailsToQuery
kept_failed sql params old new e (inl h) = kept_not_run sql params old new e h
kept_failed sql params old new e (inr h) = kept_unshown old new sql h.0 _ e h.0.returning h.2

pub shown_same : (sql : List ℕ) (params : Row) (old new : State) (rows : List Row)
    → IsPlain (understood old.now.schema sql) → Shown sql params old new rows → IsUnchanged old new
unfolding Shown
shown_same sql params old new rows plain h =
    (subst (ShowsRows old new sql h.0 _ rows) (subst IsPlain h.1.is plain).0 h.2).3

pub commits_nothing : (sql : List ℕ) (params : Row) (old new : State)
    → IsPlain (understood office_schema sql) → Survives old new (CommitsShowing sql params old)
    → Survives old new (λ _. ⊥)
commits_nothing sql params old new plain =
    survives_weaker old new _ _
    (λ _ db h. commits_never office_schema sql params old db plain h)

pub keeps_after : (a b c : State) → IsUnchanged a b → Keeps b c → Keeps a c
keeps_after a b c same h = grind (arith, common_steps)
