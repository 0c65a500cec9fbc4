use Rattle.std.proofs.Common.{◌≡◌, ◌≢◌, length, get_or, arith}
use Rattle.std.proofs.lemmas.Result.{IfOk-weaker}
use Rattle.exam_lists.proofs.Results.{OnOk_any}
use Rattle.exam_lists.proofs.Searches.{first_only}
use Rattle.sqlite.specs.Held.{state}
use Rattle.office_tables.proofs.AdoptLemmas.{failed_first}
use Rattle.office_tables.proofs.ListTexts.{meta_is}
use Rattle.office_tables.proofs.ListedTables.{all_listed}
use Rattle.office_tables.proofs.MetaFound.{single, not_single}
use Rattle.office_tables.proofs.tables.meta.adopt_meta.Goals as goal

pub returns-in_err-rows : goal.returns-in_err-rows
returns-in_err-rows g c =
    failed_first _ (c.list_rows.ensures c.args.version 0 _ _ (meta_is c.args.version)).looks
    c.from_residual.ensures.1

pub returns-then-len-ne1 : goal.returns-then-len-ne1
returns-then-len-ne1 g c =
    let v = c.args.version in
    let old = state g.S.Store c.args.conn.now in
    let all = c.in_ok-rows.ensures v 0 _ _ (meta_is v) in
    let many : length c.in_ok-rows.rows.items ≢ 1 = grind arith in
    record {
      found = λ clean tables.
          not_single v old.now tables.schema (tables.live (all.same clean tables).0.was_open).0
          c.in_ok-rows.rows.items
          (all_listed 0 _ _ old.now.trees _ (all.found clean tables)) many;
      same = all.same;
      looks = all.looks;
    }

pub returns : goal.returns
returns g c =
    let v = c.args.version in
    let old = state g.S.Store c.args.conn.now in
    let all = c.in_ok-rows.ensures v 0 _ _ (meta_is v) in
    let rows = c.in_ok-rows.rows.items in
    let row = c.index.result.now in
    let long : length rows ≡ 1 = grind arith in
    let first : row ≡ get_or rows 0 row = c.index.ensures in
    record {
      found = λ clean tables.
          IfOk-weaker c.read_meta.result _ _
          (single v old.now tables.schema (tables.live (all.same clean tables).0.was_open).0 rows
          (all_listed 0 _ _ old.now.trees _ (all.found clean tables)) row
          (first_only rows row long first))
          c.read_meta.ensures.ok;
      same = λ clean tables. OnOk_any c.read_meta.result (all.same clean tables);
      looks = all.looks;
    }
