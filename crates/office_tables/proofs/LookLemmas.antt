-- If a query is answered, the store was open.
use Rattle.std.proofs.Common.{ℕ, List, Some, None, Option, IsTrue, codes, sym, subst, refl}
use Rattle.sqlite_value.specs.Order.{Row}
use Rattle.sqlite_schema.specs.declared.command.Returning.{Returning}
use Rattle.sqlite_resolve.specs.declared.compiled.Compiled.{Compiled}
use Rattle.sqlite.specs.Listing.{understood}
use Rattle.sqlite.specs.State.{State, Shown, ShowsRows}
use Rattle.sqlite.proofs.Callers.{IsPlain}
use Rattle.sqlite_tied.specs.Compute.{everything}
use Rattle.office_tables.specs.Tables.{office_schema, Tables}
use Rattle.office_tables.specs.TablesHeld.{HoldsTables}

open_rows : (old new : State) (sql : List ℕ) (c : Compiled) (params : Row) (rows : List Row)
    (r : Option Returning)
    → ShowsRows old new sql c params rows r → IsTrue old.is_open
open_rows old new sql c params rows None h = h.3.0.was_open
open_rows old new sql c params rows (Some what) h = h.1.shown.was_open

pub was_open : (sql : List ℕ) (params : Row) (old new : State) (rows : List Row)
    → Shown sql params old new rows → IsTrue old.is_open
unfolding Shown
was_open sql params old new rows h = open_rows old new sql h.0 _ rows h.0.returning h.2

abbrev pub look_text : List ℕ
look_text = codes "SELECT no FROM draft WHERE no = 0"

pub look_plain : IsPlain (understood office_schema look_text)
unfolding understood everything
look_plain = (refl, refl)

pub look_plain_in : (old : State) (t : Tables) → HoldsTables old.now t
    → IsPlain (understood old.now.schema look_text)
look_plain_in old t represents =
    subst (λ s. IsPlain (understood s look_text)) (sym represents.schema) look_plain
