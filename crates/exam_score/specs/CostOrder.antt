-- The four costs don't depend on the order, and are 0 within one period: the laws of the trait
-- follow, and proofs of a trait's laws must be in specs/.
use Rattle.std.specs.Prelude.{◌≡◌, ℕ, ◌≤◌, Bool, true, false, ◌&&◌, ◌==◌, nat_lt, nat_le, List, length, if◌then◌else◌}
use Rattle.std.proofs.Common.{refl, ap, ◌∙◌, arith}
use Rattle.std.proofs.lemmas.Bool.Decides.{nat_tests}
use Rattle.exam_model.specs.Distances.{gap, next_day, is_same_day}
use Rattle.exam_model.proofs.DayLemmas.{next_day-swap, is_same_day-swap}
use Rattle.exam_model.specs.declared.parts.Period.{Period}
use Rattle.exam_model.specs.declared.parts.Weights.{Weights}
use Rattle.exam_score.specs.Cost.{spread_cost}
use Rattle.exam_score.specs.Kinds.{in_row, in_day, in_spread, Kind, in_table, over_night, kind_cost}

-- two periods are as far apart in either order
gap-swap : (p q : ℕ) → gap p q ≡ gap q p
gap-swap p q = omega arith

-- a period is at no distance from itself
gap-none : (p : ℕ) → gap p p ≡ 0
gap-none p = omega arith

-- the order of two tests doesn't matter
and-swap : (a b : Bool) → (a && b) ≡ (b && a)
and-swap true true = refl
and-swap true false = refl
and-swap false true = refl
and-swap false false = refl

-- the cost is 0 if a test fails
pub pick-none : (a : Bool) (n : ℕ) → (if a && false then n else 0) ≡ 0
pick-none true n = refl
pick-none false n = refl

-- the costs in either order
pub kind_cost-swap : (periods : List Period) (weights : Weights) (k : Kind) (p q : ℕ)
    → kind_cost periods weights k p q ≡ kind_cost periods weights k q p
kind_cost-swap periods weights (in_table in_row) p q =
    λ i. if is_same_day-swap periods p q i && (gap-swap p q i == 1) then weights.row else 0
kind_cost-swap periods weights (in_table in_day) p q =
    λ i. if is_same_day-swap periods p q i && nat_le 2 (gap-swap p q i) then weights.day else 0
kind_cost-swap periods weights (in_table in_spread) p q =
    λ i. if and-swap (nat_lt p (length periods)) (nat_lt q (length periods)) i
    && (nat_le 1 (gap-swap p q i) && nat_le (gap-swap p q i) weights.spread) then 1 else 0
kind_cost-swap periods weights over_night p q =
    λ i. if next_day-swap periods p q i && (gap-swap p q i == 1) then weights.night else 0

-- the costs within one period
pub kind_cost-none : (periods : List Period) (weights : Weights) (k : Kind) (p : ℕ)
    → kind_cost periods weights k p p ≡ 0
kind_cost-none periods weights (in_table in_row) p =
    ap (λ g. if is_same_day periods p p && (g == 1) then weights.row else 0) (gap-none p)
    ∙ pick-none (is_same_day periods p p) weights.row
kind_cost-none periods weights (in_table in_day) p =
    ap (λ g. if is_same_day periods p p && nat_le 2 g then weights.day else 0) (gap-none p)
    ∙ pick-none (is_same_day periods p p) weights.day
kind_cost-none periods weights (in_table in_spread) p =
    ap (λ g. if (nat_lt p (length periods) && nat_lt p (length periods))
    && (nat_le 1 g && nat_le g weights.spread) then 1 else 0) (gap-none p)
    ∙ pick-none (nat_lt p (length periods) && nat_lt p (length periods)) 1
kind_cost-none periods weights over_night p =
    ap (λ g. if next_day periods p p && (g == 1) then weights.night else 0) (gap-none p)
    ∙ pick-none (next_day periods p p) weights.night

-- a spread costs at most 1
pub spread_cost-small : (periods : List Period) (weights : Weights) (p q : ℕ)
    → spread_cost periods weights p q ≤ 1
spread_cost-small periods weights p q = grind (arith, nat_tests)
