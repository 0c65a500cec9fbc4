use Rattle.std.proofs.lemmas.Result.{IfOk-weaker}
use Rattle.exam_lists.proofs.Results.{OnOk_any}
use Rattle.office_tables.specs.Stored.{keyed_columns}
use Rattle.office_tables.proofs.AdoptLemmas.{failed_first}
use Rattle.office_tables.proofs.nights.add_nights.Goals as goal

pub returns-in_err-nights : goal.returns-in_err-nights
returns-in_err-nights g c version tree lists =
    failed_first _ (c.read_table.ensures.adopts version tree keyed_columns lists.table).looks
    c.from_residual.ensures.1

pub returns : goal.returns
returns g c version tree lists =
    let all = c.in_ok-nights.ensures.adopts version tree keyed_columns lists.table in record {
      found = λ clean tables. IfOk-weaker c.join_lists.result _ _
          (λ found is. (
            c.in_ok-nights.nights,
            (
              all.found clean tables,
              c.in_ok-nights.ensures.rise version 0 tree keyed_columns lists clean tables,
            ),
            is,
          ))
          c.join_lists.ensures;
      same = λ clean tables. OnOk_any c.join_lists.result (all.same clean tables);
      looks = all.looks;
    }
