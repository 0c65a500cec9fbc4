use Rattle.std.proofs.Common.{◌≡◌, ◌∙◌, ℕ, ap}
use Rattle.std.specs.Prelude.{min}
use Rattle.exam_score.specs.Kinds.{in_row, in_day, Kind, in_table, over_night, cost_in}
use Rattle.exam_score.specs.Regrouping.{candidate_cost}
use Rattle.exam_score.proofs.CostLemmas.{uncapped, cost_in-small}
use Rattle.exam_score.proofs.candidate.personal.Goals as goal

pub returns : goal.returns
returns c =
    let I = c.args.instance.now in
    let at = c.args.periods.now in
    let whole : (k : Kind) → candidate_cost (λ p q. min (cost_in I k p q) 100000) at
    ≡ candidate_cost (cost_in I k) at
    = λ k. ap (λ (cost : ℕ → ℕ → ℕ). candidate_cost cost at)
    (uncapped (cost_in I k) (cost_in-small I c.lemma_limits.ensures k)) in
    c.of.ensures ∙ (λ i. record {
      row = (c.cost_of_pairs-row.ensures.cost ∙ whole (in_table in_row)) i;
      day = (c.cost_of_pairs-day.ensures.cost ∙ whole (in_table in_day)) i;
      spread = c.cost_of_pairs-spread.ensures.cost i;
      night = (c.cost_of_pairs-night.ensures.cost ∙ whole over_night) i;
    })
