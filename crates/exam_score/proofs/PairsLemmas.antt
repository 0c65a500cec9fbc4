-- The sum over pairs of exams is the sum over rows of placed exams, and over their tallies.
use Rattle.std.proofs.lemmas.Grind.{common_steps}
use Rattle.std.specs.List.{cons_option}
use Rattle.std.proofs.Common.{◌≡◌, ℕ, ◌+◌, ◌*◌, ◌≤◌, cond, eqb, List, [], ◌∷◌, length, Some, None, option_map, sum_by, filter_map, refl, sym, ◌∙◌, ap, ap₂, arith, zero-add, mul-zero, zero-mul, rules}
use Rattle.std.proofs.Math.Nat.{mul_comm, mul_assoc}
use Rattle.std.proofs.lemmas.List.Sums.{sum_by-cons}
use Rattle.exam_lists.proofs.Sums.{sum_by-same, sum_by-times, sum_by-zeros, sum_by-ones}
use Rattle.exam_lists.proofs.Booleans.{eqb_swap, cond_same}
use Rattle.exam_model.specs.Enrolments.{Enrolled, AreEnrolments, students, size_of}
use Rattle.exam_model.specs.Instance.{Session, IsInstance}
use Rattle.exam_model.specs.PairCost.{cost_between}
use Rattle.exam_model.specs.Pairs.{Pair, pairs_of}
use Rattle.exam_model.specs.Sums.{sum_pairs, sum_below}
use Rattle.exam_model.specs.Timetable.{Placing}
use Rattle.exam_model.specs.Fits.{period_of}
use Rattle.exam_model.proofs.PairLemmas.{are_pairs}
use Rattle.exam_model.proofs.SumLemmas.{sum_pairs-twice}
use Rattle.exam_score.specs.CostOrder.{kind_cost-swap, kind_cost-none}
use Rattle.exam_score.specs.Kinds.{TableKind, Kind, over_night, cost_in, table_cost, table_amount, with_night, amount}
use Rattle.exam_score.specs.PairSums.{ArePairParts}
use Rattle.exam_score.specs.Penalty.{PersonalPenalty}
use Rattle.exam_score.specs.Regrouping.{pair_part}
use Rattle.exam_score.specs.Rows.{row_at, row_of}
use Rattle.exam_score.specs.Tallies.{if_placed, tally_sum, tally_pair, tally_cost, row_count, AreCounted}
use Rattle.exam_score.specs.Walk.{row_pair, cost_with}
use Rattle.exam_score.specs.declared.amounts.Amounts.{Amounts}
use Rattle.exam_score.specs.declared.rows.Row.{Row}
use Rattle.exam_score.specs.declared.sittings.PlacedExam.{PlacedExam}
use Rattle.exam_score.specs.declared.tallies.Tally.{Tally}
use Rattle.exam_score.proofs.CostLemmas.{cost_in-small}
use Rattle.exam_score.proofs.KindLemmas.{by_kinds, each_kind, of_kinds}
use Rattle.exam_score.proofs.RegroupingLemmas.{later_cost, part_by_rows}
use Rattle.exam_score.proofs.RowLemmas.{rows_few}
use Rattle.exam_score.proofs.SittingLemmas.{rows_by_exam}
use Rattle.exam_score.proofs.WalkLemmas.{cost_with-small}

-- ---- placed exams

beside_placed : (cost : ℕ → ℕ → ℕ) (T : Placing) (s x : ℕ) (ps : List Pair)
    → sum_by (λ q. cond (eqb q.student s) (cost_between cost (Some x) (period_of T q.exam)) 0) ps
    ≡ sum_by (row_pair cost (row_at x s)) (filter_map (row_of T) ps)
beside_placed cost T s x [] = refl
beside_placed cost T s x (q ∷ ps) =
    let rows : List Row = filter_map (row_of T) ps in
    sum_by-cons (λ q. cond (eqb q.student s) (cost_between cost (Some x) (period_of T q.exam)) 0) q
    ps
    ∙ ap (λ n. cond (eqb q.student s) (cost_between cost (Some x) (period_of T q.exam)) 0 + n)
    (beside_placed cost T s x ps)
    ∙ (elim (period_of T q.exam)
    as (λ o. cond (eqb q.student s) (cost_between cost (Some x) o) 0
    + sum_by (row_pair cost (row_at x s)) rows
    ≡ sum_by (row_pair cost (row_at x s))
    (cons_option (option_map (λ period. row_at period q.student) o) rows)) [
      | None ↦ grind (arith, common_steps, cond_same, zero-add)
      | Some y ↦ sym (sum_by-cons (row_pair cost (row_at x s)) (row_at y q.student) rows)
    ])

pub by_placed : (cost : ℕ → ℕ → ℕ) (T : Placing) (ps : List Pair)
    → sum_pairs (later_cost (λ e f. cost_between cost (period_of T e) (period_of T f))) ps
    ≡ cost_with cost (filter_map (row_of T) ps)
by_placed cost T [] = refl
by_placed cost T (p ∷ ps) =
    let rows : List Row = filter_map (row_of T) ps in
    ap (λ n. sum_by (later_cost (λ e f. cost_between cost (period_of T e) (period_of T f)) p) ps
    + n)
    (by_placed cost T ps)
    ∙ (elim (period_of T p.exam)
    as (λ o. sum_by
    (λ q. cond (eqb q.student p.student) (cost_between cost o (period_of T q.exam)) 0) ps
    + cost_with cost rows
    ≡ cost_with cost (cons_option (option_map (λ period. row_at period p.student) o) rows)) [
      | None ↦ search (rules, cond_same, sum_by-same, sum_by-zeros, zero-add)
      | Some x ↦ ap (λ n. n + cost_with cost rows) (beside_placed cost T p.student x ps)
    ])

-- ---- rows

row_pair-none : (cost : ℕ → ℕ → ℕ) → ((p : ℕ) → cost p p ≡ 0) → (x : Row) → row_pair cost x x ≡ 0
row_pair-none cost nothing x = ap (λ n. cond (eqb x.student x.student) n 0) (nothing x.period)
    ∙ cond_same (eqb x.student x.student) 0

row_pair-turned : (cost : ℕ → ℕ → ℕ) → ((p q : ℕ) → cost p q ≡ cost q p) → (x y : Row)
    → row_pair cost x y ≡ row_pair cost y x
row_pair-turned cost either x y =
    ap₂ (λ b n. cond b n 0) (eqb_swap y.student x.student) (either x.period y.period)

-- the part of the penalty is the cost over the rows
pub part_of_rows : (cost : ℕ → ℕ → ℕ) (E : Enrolled) (T : Placing) → AreEnrolments E
    → cost_with cost (filter_map (row_of T) (pairs_of E)) ≡ pair_part cost E (period_of T)
part_of_rows cost E T known = sym (by_placed cost T (pairs_of E))
    ∙ sym (part_by_rows cost E (period_of T) (are_pairs E known))

-- ---- by tallies

turned_product : (a b c : ℕ) → a * b * c ≡ c * b * a
turned_product a b c = mul_comm (a * b) c ∙ ap (λ n. c * n) (mul_comm a b) ∙ sym (mul_assoc c b a)

-- the cost over pairs of tallies is the cost over pairs of the rows that they count
tallied_cost : (cost : ℕ → ℕ → ℕ) (rows : List Row) (tallies : List Tally)
    → ((p q : ℕ) → cost p q ≡ cost q p) → ((p : ℕ) → cost p p ≡ 0)
    → ((f : Row → ℕ) → sum_by f rows ≡ sum_by (tally_sum f) tallies)
    → tally_cost cost tallies ≡ cost_with cost rows
tallied_cost cost rows tallies either nothing counted =
    let by_rows =
    sum_pairs-twice (row_pair cost) (row_pair-none cost nothing)
    (row_pair-turned cost either) rows in
    let by_tallies = sum_pairs-twice (tally_pair cost) none turned tallies in
    let same : sum_by (λ x. sum_by (row_pair cost x) rows) rows
    ≡ sum_by (λ x. sum_by (tally_pair cost x) tallies) tallies
    = grind (arith, common_steps, each, sum_by-same) in
    omega arith
  where
    none : (x : Tally) → tally_pair cost x x ≡ 0
    none x =
        ap (λ n. x.exams * n * x.exams) (row_pair-none cost nothing (row_at x.period x.student))
        ∙ ap (λ n. n * x.exams) (mul-zero x.exams) ∙ zero-mul x.exams

    turned : (x y : Tally) → tally_pair cost x y ≡ tally_pair cost y x
    turned x y = grind (arith, row_pair-turned, turned_product)

    each : (x : Tally) → tally_sum (λ r. sum_by (tally_sum (row_pair cost r)) tallies) x
        ≡ sum_by (tally_pair cost x) tallies
    each x =
        mul_comm x.exams (sum_by (tally_sum (row_pair cost (row_at x.period x.student))) tallies)
        ∙ sym (sum_by-times (tally_sum (row_pair cost (row_at x.period x.student))) x.exams tallies)
        ∙ sum_by-same _ _
        (λ y. turned_product y.exams
        (row_pair cost (row_at x.period x.student) (row_at y.period y.student)) x.exams)
        tallies

-- the tallies of a timetable's sittings count the rows of its pairs
pub tallied_rows : (E : Enrolled) (T : Placing) (sittings : List PlacedExam) (tallies : List Tally)
    → length T ≡ length E
    → ((g : ℕ → ℕ → ℕ) → sum_by (λ x. g x.exam x.period) sittings
    ≡ sum_below (length T) (λ e. if_placed (g e) (period_of T e)))
    → AreCounted E sittings tallies
    → (f : Row → ℕ) → sum_by f (filter_map (row_of T) (pairs_of E)) ≡ sum_by (tally_sum f) tallies
tallied_rows E T sittings tallies long all counted f =
    rows_by_exam f E T
    ∙ ap (λ n. sum_below n
    (λ e. if_placed (λ p. sum_by (λ s. f (row_at p s)) (students E e)) (period_of T e)))
    (sym long)
    ∙ sym (all (λ e p. sum_by (λ s. f (row_at p s)) (students E e)))
    ∙ counted f

-- ---- the number of rows

few_rows : (E : Enrolled) (T : Placing) → AreEnrolments E
    → length (filter_map (row_of T) (pairs_of E)) ≤ 200000
few_rows E T known = grind (arith, are_pairs, rows_few)

-- the sittings have at most as many students as there are pairs
pub few_seats : (E : Enrolled) (T : Placing) (sittings : List PlacedExam) → AreEnrolments E
    → length T ≡ length E
    → ((g : ℕ → ℕ → ℕ) → sum_by (λ x. g x.exam x.period) sittings
    ≡ sum_below (length T) (λ e. if_placed (g e) (period_of T e)))
    → sum_by (λ x. size_of E x.exam) sittings ≤ 200000
few_seats E T sittings known long all =
    let sizes : sum_by (λ x. size_of E x.exam) sittings
    ≡ sum_by (λ x. sum_by (λ s. 1) (students E x.exam)) sittings
    = sum_by-same _ _ (λ (x : PlacedExam). sym (sum_by-ones (students E x.exam))) sittings in
    let rows : sum_by (λ x. sum_by (λ s. 1) (students E x.exam)) sittings
    ≡ length (filter_map (row_of T) (pairs_of E))
    = all (λ e p. sum_by (λ s. 1) (students E e))
    ∙ ap (λ n. sum_below n (λ e. if_placed (λ p. sum_by (λ s. 1) (students E e)) (period_of T e)))
    long
    ∙ sym (rows_by_exam (λ r. 1) E T) ∙ sum_by-ones (filter_map (row_of T) (pairs_of E)) in
    let few = few_rows E T known in
    omega arith

-- the tallies count at most as many rows
pub few_tallied : (E : Enrolled) (T : Placing) (tallies : List Tally) → AreEnrolments E
    → ((f : Row → ℕ) → sum_by f (filter_map (row_of T) (pairs_of E)) ≡ sum_by (tally_sum f) tallies)
    → row_count tallies ≤ 200000
few_tallied E T tallies known counted =
    let rows = sum_by-ones (filter_map (row_of T) (pairs_of E)) in
    let same = counted (λ r. 1) in
    let few = few_rows E T known in
    omega arith

-- ---- both facts on a part

pub part_small : (cost : ℕ → ℕ → ℕ) (E : Enrolled) (T : Placing) → AreEnrolments E
    → ((p q : ℕ) → cost p q ≤ 100000) → pair_part cost E (period_of T) ≤ 4000000000000000
part_small cost E T known small =
    let rows : List Row = filter_map (row_of T) (pairs_of E) in
    let same = part_of_rows cost E T known in
    let bound = cost_with-small cost rows small (few_rows E T known) in
    omega arith

-- n is the part of the penalty that has this cost, and is small
pub record IsPart (cost : ℕ → ℕ → ℕ) (E : Enrolled) (T : Placing) (n : ℕ) : Type 0 where
  pub sum : n ≡ pair_part cost E (period_of T)
  pub small : n ≤ 4000000000000000

is_part : (cost : ℕ → ℕ → ℕ) (E : Enrolled) (T : Placing) (n : ℕ) (tallies : List Tally)
    → AreEnrolments E
    → ((p q : ℕ) → cost p q ≡ cost q p) → ((p : ℕ) → cost p p ≡ 0) → ((p q : ℕ) → cost p q ≤ 100000)
    → ((f : Row → ℕ) → sum_by f (filter_map (row_of T) (pairs_of E)) ≡ sum_by (tally_sum f) tallies)
    → n ≡ tally_cost cost tallies → IsPart cost E T n
is_part cost E T n tallies known either nothing small counted is =
    let rows : List Row = filter_map (row_of T) (pairs_of E) in
    let total : n ≡ cost_with cost rows = grind (arith, common_steps, tallied_cost) in
    let bound = cost_with-small cost rows small (few_rows E T known) in
    record { sum = total ∙ part_of_rows cost E T known; small = omega arith }

-- the four parts of the pairs
pub of_parts : (I : Session) (E : Enrolled) (T : Placing) (sums : PersonalPenalty)
    → ((k : Kind) → IsPart (cost_in I k) E T (amount sums k)) → ArePairParts I E T sums
of_parts I E T sums are = record {
  parts = by_kinds sums _ (λ k. (are k).sum);
  few = each_kind small;
}
  where
    small : (k : Kind) → amount sums k ≤ 4000000000000000
    small k = (are k).small

-- these by the tallies
pub pair_parts_tallied : (I : Session) (E : Enrolled) (T : Placing) (sittings : List PlacedExam)
    (tallies : List Tally) (sums : Amounts ℕ) (night : ℕ)
    → IsInstance I → AreEnrolments E → length T ≡ length E
    → ((g : ℕ → ℕ → ℕ) → sum_by (λ x. g x.exam x.period) sittings
    ≡ sum_below (length T) (λ e. if_placed (g e) (period_of T e)))
    → AreCounted E sittings tallies
    → ((k : TableKind) → table_amount sums k ≡ tally_cost (table_cost I k) tallies)
    → night ≡ tally_cost (cost_in I over_night) tallies → ArePairParts I E T (with_night sums night)
pair_parts_tallied I E T sittings tallies sums night known enrolled long all counted sums_are
    night_is =
    of_parts I E T (with_night sums night)
    (λ k. is_part (cost_in I k) E T _ tallies enrolled (kind_cost-swap I.periods I.weights k)
    (kind_cost-none I.periods I.weights k) (cost_in-small I known k)
    (tallied_rows E T sittings tallies long all counted)
    (of_kinds sums night (λ k. tally_cost (cost_in I k) tallies) sums_are night_is k))
