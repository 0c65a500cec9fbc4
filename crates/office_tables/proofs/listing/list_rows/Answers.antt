use Rattle.std.proofs.lemmas.Result.{IfOk-weaker}
use Rattle.exam_lists.proofs.Results.{OnOk_from_IfOk}
use Rattle.sqlite.specs.Held.{state}
use Rattle.office_tables.proofs.ListedTables.{listing, listed_same, listed_kept, listed_silent}
use Rattle.office_tables.proofs.listing.list_rows.Goals as goal

pub returns : goal.returns
returns g c version tree shown order lists =
    let old = state g.S.Store c.args.conn.now in
    let new = state g.S.Store c.query_all.new.self in
    record {
      found = λ clean tables. IfOk-weaker c.query_all.result _ _
          (λ rows h. listing tree shown order _ version lists old new tables.schema rows.items h)
          (c.query_all.ensures.ok clean);
      same = λ clean tables. OnOk_from_IfOk c.query_all.result _ _
          (λ rows h. listed_same tree shown order _ version lists old new tables.schema rows.items
          h) (c.query_all.ensures.ok clean);
      looks = record {
        kept = λ clean tables. listed_kept tree shown order _ version lists old new tables.schema
            c.query_all.result (c.query_all.ensures.ok clean) (c.query_all.ensures.err clean);
        mode = c.query_all.ensures.mode;
        survives =
            listed_silent tree shown order _ version lists old new c.query_all.ensures.survives;
      };
    }
