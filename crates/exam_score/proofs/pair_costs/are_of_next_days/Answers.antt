use Rattle.exam_score.proofs.CostLemmas.{date_exists}
use Rattle.exam_score.proofs.pair_costs.are_of_next_days.Goals as goal

pub is_a_day_from-requires : goal.is_a_day_from-requires
is_a_day_from-requires c =
    let I = c.args.instance.now in
    let known = c.periods.ensures.kept in
    record {
      first = date_exists I known c.args.one c.period.result c.period.ensures;
      second = date_exists I known c.args.other c.period-then-get-periods-2.result
          c.period-then-get-periods-2.ensures;
    }
