use Rattle.std.proofs.Common.{[], map, ap, sym, subst, ◌∙◌, arith}
use Rattle.sqlite.specs.Held.{state}
use Rattle.sqlite.specs.State.{HasCleanDisk}
use Rattle.office_tables.specs.Asking.{IsReadOf}
use Rattle.office_tables.specs.Nights.{night_columns}
use Rattle.office_tables.specs.TablesHeld.{HoldsTables}
use Rattle.office_tables.proofs.AskLemmas.{means_in, plain_in}
use Rattle.office_tables.proofs.nights.stream_with_nights.Goals as goal

pub returns-in-Some-clause-shown : goal.returns-in-Some-clause-shown
returns-in-Some-clause-shown g c q nights_q means nights_means clean t represents =
    let old = state g.S.Store c.args.conn.now in
    let mid = state g.S.Store c.stream.new.conn in
    let before : HasCleanDisk mid = omega (arith, c.stream-2.ensures.leaves.survives.clean) in
    let same = c.in_ok-rows.ensures.leaves.same before (plain_in q _ means old old t represents) in
    let later = subst (λ db. HoldsTables db t) (sym same.0.now_is) represents in
    let nights = c.in_ok-nights.nights.items in
    let joined = rw c.in-Some.is at c.in_ok-found.ensures in
    record {
      rows = c.in_ok-rows.rows.items;
      nights = nights;
      first = c.in_ok-rows.ensures.shown q (means_in q _ means old old t represents) before;
      second = subst (λ db. IsReadOf night_columns 2 [] nights_q db.trees nights) same.0.now_is
          (c.in_ok-nights.ensures.shown nights_q
          (means_in nights_q _ nights_means mid mid t later) clean);
      columns = joined.0 ∙ ap (map g.R.HasNight.main_columns) c.deref.ensures.value;
      amounts = joined.1 ∙ ap (map night_columns) c.deref-2.ensures.value;
    }
