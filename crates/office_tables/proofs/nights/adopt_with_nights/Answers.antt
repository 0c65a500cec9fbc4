use Rattle.std.proofs.Common.{Ok, map, sym, subst}
use Rattle.std.specs.Prelude.{IfSome}
use Rattle.sqlite.specs.Held.{state}
use Rattle.office_tables.specs.Finders.{ReadsUnknownFile, IsFound}
use Rattle.office_tables.specs.Readings.{ColumnRises}
use Rattle.office_tables.specs.Listings.{ListsKeyed}
use Rattle.office_tables.specs.Joining.{AreFound, HaveRows}
use Rattle.office_tables.specs.Stored.{keyed_columns}
use Rattle.office_tables.proofs.AdoptLemmas.{both_found, failed_first}
use Rattle.office_tables.proofs.NightLemmas.{before_found, joined_found}
use Rattle.office_tables.proofs.nights.adopt_with_nights.Goals as goal

pub returns-in_err-rows : goal.returns-in_err-rows
returns-in_err-rows g c tree nights_tree first second splits =
    failed_first _ (c.read_table.ensures.adopts c.args.version tree keyed_columns first.table).looks
    c.from_residual.ensures.1

pub returns-in-One : goal.returns-in-One
returns-in-One g c tree nights_tree first second splits =
    let old = state g.S.Store c.args.conn.now in
    let all = c.in_ok-rows.ensures.adopts c.args.version tree keyed_columns first.table in
    record {
      found = λ clean tables.
          subst (λ v. AreFound g.R.Record.fits (HaveRows v g.R.HasNight.main_columns
          g.R.HasNight.side_columns g.R.HasNight.night_in (old.now.trees tree)
          (old.now.trees nights_tree)) c.in_ok-rows.rows) (sym c.in-One.is)
          (before_found _ _ _ _ _ _ splits (old.now.trees tree) (old.now.trees nights_tree)
          c.in_ok-rows.rows (all.found clean tables));
      same = all.same;
      looks = all.looks;
    }

pub returns-in-Two : goal.returns-in-Two
returns-in-Two g c tree nights_tree first second splits =
    let v = c.args.version in
    let all = c.in_ok-rows.ensures.adopts v tree keyed_columns first.table in
    let here =
    subst (λ v. ListsKeyed v 0 2 nights_tree keyed_columns c.args.nights_sql.now) (sym c.in-Two.is)
    second in
    let rows : ReadsUnknownFile v g.S.Store (λ db rows.
    IsFound g.R.Record.fits g.R.Record.columns_of keyed_columns (db.trees tree) rows
    × IfSome rows (λ records. ColumnRises 0 (map g.R.Record.columns_of records.items)))
    c.args.conn.now c.read_table.new.conn (Ok c.in_ok-rows.rows) = record {
      found = λ clean tables. (
        all.found clean tables,
        c.in_ok-rows.ensures.rise v 0 tree keyed_columns first clean tables,
      );
      same = all.same;
      looks = all.looks;
    } in
    both_found rows (c.add_nights.ensures v nights_tree here)
    (λ db found both is. subst (λ v. AreFound g.R.Record.fits (HaveRows v
    g.R.HasNight.main_columns g.R.HasNight.side_columns g.R.HasNight.night_in
    (db.trees tree) (db.trees nights_tree)) found) (sym c.in-Two.is)
    (joined_found _ _ _ _ _ _ splits (db.trees tree) (db.trees nights_tree) c.in_ok-rows.rows
    both.0 both.1 found is))
