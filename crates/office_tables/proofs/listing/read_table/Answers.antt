use Rattle.std.proofs.Common.{rules, IsTrue, subst, subst₂, sym}
use Rattle.std.proofs.lemmas.Result.{IfOk-weaker}
use Rattle.exam_lists.proofs.Results.{OnOk_any}
use Rattle.sqlite.specs.Held.{state}
use Rattle.office_tables.specs.Readings.{IsRead, ColumnRises}
use Rattle.office_tables.proofs.AdoptLemmas.{failed_first}
use Rattle.office_tables.proofs.ListedTables.{adopted, all_listed, listed_rise, read_rises}
use Rattle.office_tables.proofs.listing.read_table.Goals as goal

pub returns-in_err-rows-clause-adopts : goal.returns-in_err-rows-clause-adopts
returns-in_err-rows-clause-adopts g c version tree show lists =
    failed_first _ (c.list_rows.ensures version tree lists.terms _ lists.lists).looks
    c.from_residual.ensures.1

pub returns-then-not-numbers_rise-clause-adopts : goal.returns-then-not-numbers_rise-clause-adopts
returns-then-not-numbers_rise-clause-adopts g c version tree show lists =
    let old = state g.S.Store c.args.conn.now in
    let rows = c.in_ok-rows.rows.items in
    let width = g.R.Record.WIDTH in
    let listed = c.in_ok-rows.ensures version tree lists.terms _ lists.lists in
    record {
      found = λ clean tables made fit holds.
          let same = listed.same clean tables in
          let whole = lists.whole old.now tables.schema (tables.live same.0.was_open).0 in
          let rise : ColumnRises width rows =
          listed_rise width tree show lists.terms old.now.trees rows whole
          (listed.found clean tables) holds.rowids in
          let yes = c.numbers_rise.ensures.1 (subst₂ ColumnRises (sym c.WIDTH.ensures)
          (sym c.deref.ensures.value) rise) in
          let no = c.if-not-numbers_rise.true in
          search rules;
      same = listed.same;
      looks = listed.looks;
    }

pub returns-clause-adopts : goal.returns-clause-adopts
returns-clause-adopts g c version tree show lists =
    let old = state g.S.Store c.args.conn.now in
    let rows = c.in_ok-rows.rows.items in
    let width = g.R.Record.WIDTH in
    let listed = c.in_ok-rows.ensures version tree lists.terms _ lists.lists in
    record {
      found = λ clean tables.
          let same = listed.same clean tables in
          let whole = lists.whole old.now tables.schema (tables.live same.0.was_open).0 in
          let list = all_listed tree lists.terms _ old.now.trees rows (listed.found clean tables) in
          let rising : IsTrue c.numbers_rise.result =
          let f = c.if-not-numbers_rise.false in search rules in
          let rise : ColumnRises width rows =
          subst₂ ColumnRises c.WIDTH.ensures c.deref.ensures.value
          (c.numbers_rise.ensures.0 rising) in
          IfOk-weaker c.read_each.result _ _
          (λ found is. adopted g.R.Record.fits g.R.Record.columns_of width show lists.terms
          (old.now.trees tree) rows whole list rise found
          (subst (λ rs. IsRead g.R.Record.fits g.R.Record.columns_of width rs found)
          c.deref-2.ensures.value is))
          c.read_each.ensures;
      same = λ clean tables. OnOk_any c.read_each.result (listed.same clean tables);
      looks = listed.looks;
    }

pub returns-clause-rise : goal.returns-clause-rise
returns-clause-rise g c version at tree show keyed clean tables =
    let old = state g.S.Store c.args.conn.now in
    let lists = keyed.table in
    let rows = c.in_ok-rows.rows.items in
    let width = g.R.Record.WIDTH in
    let list = all_listed tree lists.terms _ old.now.trees rows
    ((c.in_ok-rows.ensures version tree lists.terms _ lists.lists).found clean tables) in
    let rising : IsTrue c.numbers_rise.result =
    let f = c.if-not-numbers_rise.false in search rules in
    let rise : ColumnRises width rows =
    subst₂ ColumnRises c.WIDTH.ensures c.deref.ensures.value (c.numbers_rise.ensures.0 rising) in
    IfOk-weaker c.read_each.result _ _
    (λ found is. read_rises g.R.Record.fits g.R.Record.columns_of width at keyed.within lists.terms
    (old.now.trees tree) rows keyed.number list rise found
    (subst (λ rs. IsRead g.R.Record.fits g.R.Record.columns_of width rs found)
    c.deref-2.ensures.value is))
    c.read_each.ensures
