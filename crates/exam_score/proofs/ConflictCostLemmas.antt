-- The cost over conflicts is the cost over pairs of exams.
use Rattle.std.proofs.lemmas.Grind.{common_steps}
use Rattle.std.specs.Prelude.{All, option_map, slice_get}
use Rattle.std.proofs.Common.{◌≡◌, ℕ, ◌+◌, ◌*◌, ◌<◌, ◌≤◌, List, [], ◌∷◌, Option, Some, None, length, map, take, refl, inl, inr, ◌⊎◌, get_or, ◌∙◌, arith, mul-zero, rules}
use Rattle.std.proofs.Math.Nat.{mul_comm}
use Rattle.std.proofs.lemmas.Bool.{cases_lt}
use Rattle.std.proofs.lemmas.Option.{slice_get-get_or}
use Rattle.std.proofs.lemmas.List.Sums.{sum_by_more}
use Rattle.exam_lists.proofs.Sums.{sum_by-same, sum_by-zeros}
use Rattle.exam_model.specs.Conflicts.{conflicts_of}
use Rattle.exam_model.specs.Enrolments.{Enrolled, AreEnrolments}
use Rattle.exam_model.specs.Fits.{period_of}
use Rattle.exam_model.specs.PairCost.{cost_between}
use Rattle.exam_model.specs.Timetable.{Placing, period_number}
use Rattle.exam_terms.specs.declared.place.Place.{Place}
use Rattle.exam_model.specs.declared.conflicts.Conflict.{Conflict}
use Rattle.exam_model.proofs.ConflictLemmas.{conflicts_exist, sum_of_conflicts}
use Rattle.exam_model.proofs.PlaceLemmas.{number_at}
use Rattle.exam_model.specs.Instance.{Session, IsInstance}
use Rattle.exam_score.specs.Kinds.{TableKind, in_table, over_night, cost_in, table_cost, table_amount, with_night}
use Rattle.exam_score.specs.PairSums.{ArePairParts}
use Rattle.exam_score.specs.declared.amounts.Amounts.{Amounts}
use Rattle.exam_score.specs.CostOrder.{kind_cost-swap}
use Rattle.exam_score.specs.CostRows.{IsTable}
use Rattle.exam_score.specs.declared.cost_rows.CostRow.{CostRow}
use Rattle.exam_score.proofs.CostRowLemmas.{free_at, table_beyond}
use Rattle.exam_score.proofs.CostLemmas.{cost_in-small}
use Rattle.exam_score.proofs.KindLemmas.{of_kinds}
use Rattle.exam_model.specs.declared.parts.Period.{Period}
use Rattle.exam_model.specs.declared.parts.Weights.{Weights}
use Rattle.exam_score.specs.Cost.{night_cost}
use Rattle.exam_score.proofs.NightLemmas.{night_apart}
use Rattle.exam_score.specs.ConflictCosts.{AreInTimetable, IsReach, IsSmallCost, conflicts_cost}
use Rattle.exam_score.specs.Regrouping.{pair_part}
use Rattle.exam_score.proofs.PairsLemmas.{IsPart, of_parts, part_small}

pub cost_of_conflicts : (cost : ℕ → ℕ → ℕ) (E : Enrolled) (T : Placing)
    → conflicts_cost cost T (conflicts_of E) ≡ pair_part cost E (period_of T)
cost_of_conflicts cost E T =
    sum_of_conflicts (λ e f. cost_between cost (period_of T e) (period_of T f)) E

pub conflicts_small : (cost : ℕ → ℕ → ℕ) (E : Enrolled) (T : Placing) → AreEnrolments E
    → ((p q : ℕ) → cost p q ≤ 100000) → IsSmallCost cost T (conflicts_of E)
conflicts_small cost E T known small = grind (arith, cost_of_conflicts, part_small)

pub in_timetable : (E : Enrolled) (T : Placing) → length T ≡ length E
    → AreInTimetable T (conflicts_of E)
in_timetable E T long = grind (arith, conflicts_exist)

-- ---- one conflict more

pub cost_more : (cost : ℕ → ℕ → ℕ) (T : Placing) (xs : List Conflict) (i : ℕ) (x : Conflict)
    (total one : ℕ)
    → i < length xs → x ≡ get_or xs i x → total ≡ conflicts_cost cost T (take i xs)
    → one ≡ cost_between cost (period_of T x.exam) (period_of T x.other)
    → total + one * x.students ≡ conflicts_cost cost T (take (i + 1) xs)
cost_more cost T xs i x total one lt here was is = grind (arith, mul_comm, sum_by_more)

-- ---- costs by the numbers of periods

number_cost : (I : Session) (k : TableKind) (a b : Option Place) → length I.periods ≤ 200
    → table_cost I k (period_number a) (period_number b)
    ≡ cost_between (table_cost I k) (option_map (λ (at : Place). at.period) a)
    (option_map (λ (at : Place). at.period) b)
number_cost I k None b few =
    kind_cost-swap I.periods I.weights (in_table k) 4294967295 (period_number b)
    ∙ table_beyond I k 4294967295 (period_number b) (omega arith)
number_cost I k (Some a) None few = table_beyond I k 4294967295 a.period (omega arith)
number_cost I k (Some a) (Some b) few = refl

-- the cost of two exams, by the numbers of all exams' periods
pub cost_by_numbers : (I : Session) (k : TableKind) (T : Placing) (numbers : List ℕ) (e f : ℕ)
    → length I.periods ≤ 200 → numbers ≡ map period_number T → e < length T → f < length T
    → table_cost I k (get_or numbers e 0) (get_or numbers f 0)
    ≡ cost_between (table_cost I k) (period_of T e) (period_of T f)
cost_by_numbers I k T numbers e f few are lt other =
    grind (arith, common_steps, number_at, number_cost)

-- two periods farther apart than the reach, in either order
pub apart_free : (I : Session) (n p q : ℕ) → IsReach I n → (q + n < p) ⊎ (p + n < q)
    → (k : TableKind) → table_cost I k p q ≡ 0
apart_free I n p q reach (inl after) k =
    kind_cost-swap I.periods I.weights (in_table k) p q ∙ reach.free k p q after
apart_free I n p q reach (inr before) k = reach.free k q p before

-- no night is between periods that are farther apart than adjacent ones
pub night_free : (periods : List Period) (weights : Weights) (a b : Option Place)
    → (period_number b + 1 < period_number a) ⊎ (period_number a + 1 < period_number b)
    → cost_between (night_cost periods weights) (option_map (λ (at : Place). at.period) a)
    (option_map (λ (at : Place). at.period) b) ≡ 0
night_free periods weights None b apart = refl
night_free periods weights (Some a) None apart = refl
night_free periods weights (Some a) (Some b) (inl after) = grind (arith, night_apart)
night_free periods weights (Some a) (Some b) (inr before) =
    night_apart periods weights b.period a.period (omega arith)

some_cost_row : (cost_rows : List CostRow) (p : ℕ) → p < length cost_rows
    → (cost_row : CostRow) × (slice_get cost_rows p ≡ Some cost_row)
some_cost_row [] p lt = absurd (omega arith)
some_cost_row (x ∷ xs) p lt = (get_or (x ∷ xs) p x, slice_get-get_or (x ∷ xs) p x lt)

-- the periods of all cost rows reach no farther back than n
pub is_reach : (I : Session) (cost_rows : List CostRow) (n : ℕ) → IsTable I cost_rows
    → ((p : ℕ) (cost_row : CostRow) → p < length cost_rows → slice_get cost_rows p ≡ Some cost_row
    → p ≤ cost_row.first + n) → IsReach I n
is_reach I cost_rows n table back = record {
  free = λ k p q far. elim (cases_lt p (length cost_rows)) [
    | inl within ↦
        (let found = some_cost_row cost_rows p within in
        let le = back p found.0 within found.1 in
        free_at I p q ((table.first p found.0 found.1).free.each q (omega arith)) k)
    | inr beyond ↦ table_beyond I k p q (omega (arith, table.count))
  ];
}

-- ---- a cost of nothing

free_between : (cost : ℕ → ℕ → ℕ) → ((p q : ℕ) → cost p q ≡ 0) → (a b : Option ℕ)
    → cost_between cost a b ≡ 0
free_between cost free None b = refl
free_between cost free (Some p) None = refl
free_between cost free (Some p) (Some q) = free p q

pub free_conflicts : (cost : ℕ → ℕ → ℕ) (T : Placing) (xs : List Conflict)
    → ((p q : ℕ) → cost p q ≡ 0) → conflicts_cost cost T xs ≡ 0
free_conflicts cost T xs free = search (rules, free_between, mul-zero, sum_by-same, sum_by-zeros)

-- ---- the four parts

is_part : (cost : ℕ → ℕ → ℕ) (E : Enrolled) (T : Placing) (xs : List Conflict) (n : ℕ)
    → AreEnrolments E → ((p q : ℕ) → cost p q ≤ 100000) → xs ≡ conflicts_of E
    → n ≡ conflicts_cost cost T xs → IsPart cost E T n
is_part cost E T xs n known small listed is = grind (arith, cost_of_conflicts, part_small)

-- the costs of row, day, spread and night over all conflicts
pub parts_by_conflicts : (I : Session) (E : Enrolled) (T : Placing) (xs : List Conflict)
    (sums : Amounts ℕ) (night : ℕ)
    → IsInstance I → AreEnrolments E → xs ≡ conflicts_of E
    → ((k : TableKind) → table_amount sums k ≡ conflicts_cost (table_cost I k) T xs)
    → night ≡ conflicts_cost (cost_in I over_night) T xs
    → ArePairParts I E T (with_night sums night)
parts_by_conflicts I E T xs sums night known enrolled listed sums_are night_is =
    of_parts I E T (with_night sums night)
    (λ k. is_part (cost_in I k) E T xs _ enrolled (cost_in-small I known k) listed
    (of_kinds sums night (λ k. conflicts_cost (cost_in I k) T xs) sums_are night_is k))
