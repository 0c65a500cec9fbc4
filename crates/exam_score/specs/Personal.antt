-- The personal penalty: the cost of the periods of one candidate's exams.
use Rattle.std.specs.Prelude.{ℕ, List}
use Rattle.exam_model.specs.declared.parts.Period.{Period}
use Rattle.exam_model.specs.declared.parts.Weights.{Weights}
use Rattle.exam_score.specs.Kinds.{kind_cost, by_kind}
use Rattle.exam_score.specs.Penalty.{PersonalPenalty}
use Rattle.exam_score.specs.Regrouping.{candidate_cost}

-- the sum over all pairs of places in a list of periods
abbrev pub personal_of : List Period → Weights → List ℕ → PersonalPenalty
personal_of periods weights at = by_kind (λ k. candidate_cost (kind_cost periods weights k) at)
