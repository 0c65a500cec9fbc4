-- In an instance the cap of a cost changes nothing, and each date exists.
use Rattle.std.proofs.Common.{◌≡◌, ℕ, ◌≤◌, Some, subst, arith, Fits, w32, rules}
use Rattle.std.specs.Prelude.{min, ◌&&◌, ◌==◌, slice_get, IsTrue}
use Rattle.std.proofs.lemmas.List.Elements.{All-get_or}
use Rattle.std.proofs.lemmas.Option.{get_or_from_slice_get, slice_get_within}
use Rattle.exam_lists.proofs.Booleans.{cond_le}
use Rattle.exam_calendar.specs.Dates.{is_civil}
use Rattle.exam_model.specs.Instance.{Session, IsInstance}
use Rattle.exam_model.specs.Limits.{PeriodInLimits}
use Rattle.exam_model.specs.declared.parts.Period.{Period}
use Rattle.exam_score.specs.CostOrder.{spread_cost-small}
use Rattle.exam_score.specs.Kinds.{in_row, in_day, in_spread, Kind, in_table, over_night, cost_in}

pub cost_in-small : (I : Session) → IsInstance I → (k : Kind) (p q : ℕ) → cost_in I k p q ≤ 100000
cost_in-small I known (in_table in_row) p q = search (rules, cond_le)
cost_in-small I known (in_table in_day) p q = search (rules, cond_le)
cost_in-small I known (in_table in_spread) p q =
    omega (arith, spread_cost-small I.periods I.weights p q)
cost_in-small I known over_night p q = search (rules, cond_le)

min-small : (n : ℕ) → n ≤ 100000 → min n 100000 ≡ n
min-small n h = omega arith

-- a cost fits its type
pub capped_fits : (n cost : ℕ) → n ≡ min cost 100000 → Fits w32 n
capped_fits n cost is = omega arith

pub one_fits : (n cost : ℕ) → n ≡ cost → cost ≤ 1 → Fits w32 n
one_fits n cost is small = omega arith

pub uncapped : (cost : ℕ → ℕ → ℕ) → ((p q : ℕ) → cost p q ≤ 100000)
    → ◌≡◌ {A = ℕ → ℕ → ℕ} (λ p q. min (cost p q) 100000) cost
uncapped cost small = λ i p q. min-small (cost p q) (small p q) i

-- the date of a period exists
pub date_exists : (I : Session) → IsInstance I → (p : ℕ) (x : Period)
    → slice_get I.periods p ≡ Some x → IsTrue (is_civil x.date)
date_exists I known p x at =
    let here = subst PeriodInLimits (get_or_from_slice_get I.periods p x x at)
    (All-get_or PeriodInLimits I.periods p x (slice_get_within I.periods p x at)
    known.limits.periods) in
    here.0
