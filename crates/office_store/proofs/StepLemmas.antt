-- One step of a transaction after another.
use Rattle.std.proofs.Common.{◌≡◌, Result, IsTrue, subst}
use Rattle.std.proofs.lemmas.Result.{on_ok_weaker}
use Rattle.sqlite.specs.declared.error.Error.{Error}
use Rattle.sqlite.specs.Held.{Held, state}
use Rattle.sqlite.specs.State.{HasCleanDisk}
use Rattle.sqlite.specs.Store.{Ghosts}
use Rattle.office_tables.specs.Steps.{Changes, TablesBecome, IsUncommitted}
use Rattle.office_tables.specs.Tables.{Tables}
use Rattle.office_tables.specs.TablesHeld.{HoldsTables}
use Rattle.office_tables.proofs.Inside.{clean_before, makes_then}

pub changes_then : {S : Type 0} (g : Ghosts S) (f h : Tables → Tables) (a b c : Held S)
    (r : Result (Unit {0}) Error)
    → (HasCleanDisk (state g b) → IsTrue a.in_transaction → TablesBecome f (state g a) (state g b))
    → IsUncommitted (state g b) (state g c) → Changes g h b c r → Changes g (λ t. h (f t)) a c r
changes_then g f h a b c r first within next clean inside =
    let made = first (clean_before (state g b) (state g c) within clean) inside in
    on_ok_weaker r (λ last. makes_then f h (state g a) (state g b) (state g c) made last)
    (next clean made.0)

-- the change of an equal function
pub changes_as : {S : Type 0} {f k : Tables → Tables} (g : Ghosts S) (a c : Held S)
    (r : Result (Unit {0}) Error) → ((t : Tables) → f t ≡ k t) → Changes g f a c r → Changes g k a c r
changes_as g a c r same makes clean inside =
    on_ok_weaker r (λ last. (
      last.0,
      λ t represents.
          let made = last.1 t represents in (subst (HoldsTables (state g c).now) (same t) made.0, made.1),
    ))
    (makes clean inside)
