use Rattle.std.proofs.Common.{◌≡◌, ◌∙◌, ℕ, ap}
use Rattle.std.specs.Prelude.{min}
use Rattle.exam_score.specs.EditedCosts.{exams_cost}
use Rattle.exam_score.specs.Kinds.{in_row, in_day, Kind, in_table, over_night, cost_in}
use Rattle.exam_score.proofs.CostLemmas.{uncapped, cost_in-small}
use Rattle.exam_score.proofs.sat_exams.personal_at.Goals as goal

pub returns-clause-sum : goal.returns-clause-sum
returns-clause-sum c =
    let I = c.args.instance.now in
    let T = c.args.timetable.now in
    let edited = c.args.edited.now in
    let exams = c.args.exams.now in
    let whole : (k : Kind) → exams_cost (λ p q. min (cost_in I k p q) 100000) T edited exams
    ≡ exams_cost (cost_in I k) T edited exams
    = λ k. ap (λ (cost : ℕ → ℕ → ℕ). exams_cost cost T edited exams)
    (uncapped (cost_in I k) (cost_in-small I c.lemma_limits.ensures k)) in
    c.of.ensures ∙ (λ i. record {
      row = (c.cost_of_exams-row.ensures.cost ∙ whole (in_table in_row)) i;
      day = (c.cost_of_exams-day.ensures.cost ∙ whole (in_table in_day)) i;
      spread = c.cost_of_exams-spread.ensures.cost i;
      night = (c.cost_of_exams-night.ensures.cost ∙ whole over_night) i;
    })
