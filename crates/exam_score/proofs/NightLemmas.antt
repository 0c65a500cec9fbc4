-- The pairs of periods that cost nothing over night.
use Rattle.std.proofs.Common.{◌≡◌, ℕ, ◌*◌, ◌-◌, ◌<◌, ◌≤◌, List, length, ◌∙◌, arith, ne_eqb, mul-zero, zero-mul, rules}
use Rattle.std.specs.Prelude.{◌&&◌, ◌==◌}
use Rattle.exam_lists.proofs.Booleans.{cond_same}
use Rattle.exam_model.specs.declared.parts.Period.{Period}
use Rattle.exam_model.specs.declared.parts.Weights.{Weights}
use Rattle.exam_model.proofs.SumLemmas.{sum_pairs-le}
use Rattle.exam_score.specs.Cost.{night_cost}
use Rattle.exam_score.specs.Tallies.{tally_cost, tally_pair}
use Rattle.exam_score.specs.declared.tallies.Tally.{Tally}
use Rattle.exam_score.proofs.WalkLemmas.{free_period}

-- a period at least two before another one
pub night_apart : (periods : List Period) (weights : Weights) (p q : ℕ) → q < p - 1
    → night_cost periods weights q p ≡ 0
night_apart periods weights p q before = grind (arith, ne_eqb)

-- any two periods, if the weight is 0
pub night_weightless : (periods : List Period) (weights : Weights) → weights.night ≡ 0 → (p q : ℕ)
    → night_cost periods weights p q ≡ 0
night_weightless periods weights none p q = grind (arith, cond_same)

-- tallies whose periods cost nothing
free_tallies : (cost : ℕ → ℕ → ℕ) (tallies : List Tally) → ((p q : ℕ) → cost p q ≡ 0)
    → tally_cost cost tallies ≡ 0
free_tallies cost tallies none =
    let most = sum_pairs-le (tally_pair cost) 0 pair_none tallies in
    let nothing : length tallies * (length tallies * 0) ≡ 0 = search (rules, mul-zero) in
    omega arith
  where
    pair_none : (x y : Tally) → tally_pair cost x y ≤ 0
    pair_none x y = grind (arith, free_period, zero-mul)

pub weightless_tallies : (periods : List Period) (weights : Weights) (tallies : List Tally)
    → weights.night ≡ 0 → tally_cost (night_cost periods weights) tallies ≡ 0
weightless_tallies periods weights tallies none =
    free_tallies (night_cost periods weights) tallies (night_weightless periods weights none)
