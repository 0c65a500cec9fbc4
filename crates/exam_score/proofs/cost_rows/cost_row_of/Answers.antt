use Rattle.std.proofs.Common.{◌≡◌, ◌<◌, ◌+◌, ◌++◌, ◌∷◌, [], ℕ, Some, length, ap, sym, ◌∙◌, arith, length-append}
use Rattle.std.specs.Prelude.{slice_get}
use Rattle.exam_score.specs.CostRows.{costs_of}
use Rattle.exam_score.proofs.CostRowLemmas.{cost_row_more}
use Rattle.exam_score.proofs.cost_rows.cost_row_of.Goals as goal

pub loop-other-preserved : goal.loop-other-preserved
loop-other-preserved c =
    let I = c.args.instance.now in
    let p = c.args.period in
    let cost_row = c.loop-other.cost_row.items in
    let costs : c.costs_between.result ≡ costs_of I p (length cost_row) =
    c.costs_between.ensures
    ∙ ap (costs_of I p) (c.new.ensures ∙ sym c.loop-other.invariant.count) in
    let items : c.push.new.self.items ≡ cost_row ++ costs_of I p (length cost_row) ∷ [] =
    c.in_ok-push.ensures.items ∙ ap (λ x. cost_row ++ x ∷ []) costs in
    let more : record { count : length (cost_row ++ costs_of I p (length cost_row) ∷ []) ≡ c.loop-other.other + 1; each : (q : ℕ) → q < length (cost_row ++ costs_of I p (length cost_row) ∷ []) → slice_get (cost_row ++ costs_of I p (length cost_row) ∷ []) q ≡ Some (costs_of I p q) }
    = record {
      count = omega
          (arith, length-append cost_row (costs_of I p (length cost_row) ∷ []), c.loop-other.invariant.count);
      each = cost_row_more I p cost_row c.loop-other.invariant.each;
    } in
    rw items more
