-- Replacing the old amounts of an edit by the new ones turns the old penalty into the new one.
use Rattle.std.specs.List.{AllByRecursion, list_any}
use Rattle.std.proofs.Common.{◌≡◌, ℕ, zero, suc, ◌+◌, ◌-◌, ◌*◌, ◌^◌, ◌<◌, Bool, true, false, cond, not, ◌&&◌, ◌||◌, eqb, List, [], ◌∷◌, ◌++◌, length, filter, sum_by, Option, Some, None, IfSome, IfNone, IsPermutation, refl, sym, ◌∙◌, ap, ap₂, arith, ne_eqb, eq-eqb, eqb-true, true≢false, rules}
use Rattle.std.proofs.lemmas.Bool.{cond-false, or_parts, not-true}
use Rattle.std.proofs.lemmas.List.Filters.{sum_by-filter_both}
use Rattle.exam_lists.proofs.Chains.{chain_from_each}
use Rattle.exam_lists.proofs.Each.{each_weaker, each_filter_passes, each_filter_weaker}
use Rattle.exam_lists.proofs.Sums.{sum_by-add, sum_by-none, sum_by-same}
use Rattle.exam_lists.proofs.Booleans.{eqb_swap, cond_same}
use Rattle.exam_model.specs.Enrolments.{Enrolled, AreEnrolments, has, has_number}
use Rattle.exam_model.specs.Fits.{period_of}
use Rattle.exam_model.specs.Instance.{Session, IsInstance}
use Rattle.exam_model.specs.PairCost.{cost_between}
use Rattle.exam_model.specs.Pairs.{Pair, is_pair, pairs_of}
use Rattle.exam_model.specs.Sums.{sum_below, sum_pairs}
use Rattle.exam_model.specs.Timetable.{Placing, place_of}
use Rattle.exam_model.proofs.PairLemmas.{are_pairs}
use Rattle.exam_model.proofs.SumLemmas.{sum_pairs-agree, sum_pairs-IsPermutation, sum_below-same, sum_below-within, sum_below-add}
use Rattle.exam_score.specs.Changes.{DiffersAtMost}
use Rattle.exam_score.specs.CostOrder.{kind_cost-swap, kind_cost-none}
use Rattle.exam_score.specs.Exchanges.{CannotExchange, IsExchanged, IsOfEdit, new_amounts, old_amounts, pairs_concerned, sits_among}
use Rattle.exam_score.specs.Touched.{is_touched, mixed_cost_if, room_mixed_cost_if, sum_over_exams}
use Rattle.exam_score.specs.Folds.{Folded, RepresentsPairs}
use Rattle.exam_score.specs.EditedCosts.{edited_cost, personal_sum, students_cost}
use Rattle.exam_score.specs.Kinds.{Kind, cost_in, amount}
use Rattle.exam_score.specs.Front.{AreSizes, front_by}
use Rattle.exam_score.specs.Penalty.{Penalty, PersonalPenalty, pairs_in, penalty_sum, total_of}
use Rattle.exam_score.specs.Regrouping.{pair_part}
use Rattle.exam_score.specs.Track.{exam_period, exam_room, track}
use Rattle.exam_score.specs.FrontLoad.{exam_front, front_part, is_largest, is_late}
use Rattle.exam_score.specs.MixedDurations.{durations, mixed_part, room_mixed}
use Rattle.exam_score.proofs.EditedLemmas.{between_none, between_swap}
use Rattle.exam_score.proofs.FoldLemmas.{others_each, sum_apart}
use Rattle.exam_score.proofs.FrontLemmas.{front_by_sizes}
use Rattle.exam_score.proofs.KindLemmas.{at_kind, each_kind}
use Rattle.exam_score.proofs.PairsLemmas.{by_placed, part_of_rows}
use Rattle.exam_score.proofs.RegroupingLemmas.{later_cost}
use Rattle.exam_score.proofs.SmallLemmas.{penalty_small}

-- ---- tests on lists

-- if no element of a list passes a test, each element fails it
fails_among : (test : ℕ → Bool) (exams : List ℕ) (e : ℕ) → list_any test exams ≡ false
    → has_number exams e ≡ true → test e ≡ false
fails_among test [] e none among = absurd (true≢false (sym among))
fails_among test (k ∷ ks) e none among =
    go (eqb k e) refl among (fails_among test ks e (or_parts (test k) (list_any test ks) none).1)
  where
    go : (b : Bool) → eqb k e ≡ b → (b || has_number ks e) ≡ true
        → (has_number ks e ≡ true → test e ≡ false) → test e ≡ false
    go true is h more =
        ap test (sym (eqb-true k e is)) ∙ (or_parts (test k) (list_any test ks) none).0
    go false is h more = more h

-- an exam that a student sits is not among exams that they don't sit
not_among : (E : Enrolled) (s e : ℕ) (exams : List ℕ) → has E s e ≡ true
    → sits_among E exams s ≡ false → has_number exams e ≡ false
not_among E s e exams sits none = grind (arith, fails_among)

-- ---- the students who are not concerned

-- a student's pairs add nothing with the pairs of other students
apart : (w : ℕ → ℕ → ℕ) (t : ℕ → Bool) (b : Bool) (p q : Pair) → t p.student ≡ b
    → t q.student ≡ not b → later_cost w p q ≡ 0
apart w t b p q hp hq = grind (arith, cond-false, ne_eqb)

-- the sum over all pairs is the sum over the students that pass a test and over the others
by_test : (w : ℕ → ℕ → ℕ) (t : ℕ → Bool) (ps : List Pair)
    → sum_pairs (later_cost w) ps ≡ sum_pairs (later_cost w) (filter (λ p. t p.student) ps)
    + sum_pairs (later_cost w) (filter (λ p. not (t p.student)) ps)
by_test w t [] = refl
by_test w t (p ∷ ps) = go (t p.student) refl (by_test w t ps)
  where
    no_passes : AllByRecursion (λ q. t q.student ≡ false) (filter (λ p. not (t p.student)) ps)
    no_passes = grind (arith, each_filter_passes, each_weaker, not-true)

    go : (b : Bool) → t p.student ≡ b
        → sum_pairs (later_cost w) ps ≡ sum_pairs (later_cost w) (filter (λ p. t p.student) ps)
        + sum_pairs (later_cost w) (filter (λ p. not (t p.student)) ps)
        → sum_by (later_cost w p) ps + sum_pairs (later_cost w) ps
        ≡ sum_pairs (later_cost w)
        (cond b (p ∷ filter (λ p. t p.student) ps) (filter (λ p. t p.student) ps))
        + sum_pairs (later_cost w)
        (cond (not b) (p ∷ filter (λ p. not (t p.student)) ps)
        (filter (λ p. not (t p.student)) ps))
    go true e more =
        let split = sum_by-filter_both (λ p. t p.student) (λ p. not (t p.student)) (λ _. refl)
        (later_cost w p) ps in
        let none = sum_by-none (later_cost w p) (filter (λ p. not (t p.student)) ps)
        (each_weaker (λ q. t q.student ≡ false) (λ q. later_cost w p q ≡ 0)
        (λ q h. apart w t true p q e h) (filter (λ p. not (t p.student)) ps) no_passes) in
        omega arith
    go false e more =
        let split = sum_by-filter_both (λ p. t p.student) (λ p. not (t p.student)) (λ _. refl)
        (later_cost w p) ps in
        let none = sum_by-none (later_cost w p) (filter (λ p. t p.student) ps)
        (each_weaker (λ q. t q.student ≡ true) (λ q. later_cost w p q ≡ 0)
        (λ q h. apart w t false p q e h) (filter (λ p. t p.student) ps)
        (each_filter_passes (λ p. t p.student) ps)) in
        omega arith

-- each pair of a list is in the list
there_each : (ps : List Pair)
    → AllByRecursion (λ p. list_any (is_pair p.student p.exam) ps ≡ true) ps
there_each [] = tt
there_each (p ∷ ps) = (
  ap₂ (λ a b. (a && b) || list_any (is_pair p.student p.exam) ps) (eq-eqb p.student p.student refl)
      (eq-eqb p.exam p.exam refl),
  each_weaker (λ q. list_any (is_pair q.student q.exam) ps ≡ true)
      (λ q. list_any (is_pair q.student q.exam) (p ∷ ps) ≡ true)
      (λ q h. later (is_pair q.student q.exam p) (list_any (is_pair q.student q.exam) ps) h) ps
      (there_each ps),
)
  where
    later : (a b : Bool) → b ≡ true → (a || b) ≡ true
    later true b h = refl
    later false b h = h

sat_each : (E : Enrolled) → AreEnrolments E
    → AllByRecursion (λ p. has E p.student p.exam ≡ true) (pairs_of E)
sat_each E known =
    each_weaker (λ p. list_any (is_pair p.student p.exam) (pairs_of E) ≡ true)
    (λ p. has E p.student p.exam ≡ true)
    (λ p h. sym ((are_pairs E known).members p.student p.exam) ∙ h) (pairs_of E)
    (there_each (pairs_of E))

-- ---- the pairs of the students who are concerned

-- the sum over pairs doesn't depend on their order
any_order : (cost : ℕ → ℕ → ℕ) (at : ℕ → Option ℕ) → ((p q : ℕ) → cost p q ≡ cost q p)
    → ((p : ℕ) → cost p p ≡ 0) → (xs ys : List Pair) → IsPermutation xs ys
    → sum_pairs (later_cost (λ e f. cost_between cost (at e) (at f))) xs
    ≡ sum_pairs (later_cost (λ e f. cost_between cost (at e) (at f))) ys
any_order cost at either nothing xs ys moved =
    sym (sum_pairs-IsPermutation (later_cost (λ e f. cost_between cost (at e) (at f)))
    (λ p. ap (λ n. cond (eqb p.student p.student) n 0) (between_none cost nothing (at p.exam))
    ∙ cond_same (eqb p.student p.student) 0)
    (λ p q. ap₂ (λ b n. cond b n 0) (eqb_swap q.student p.student)
    (between_swap cost either (at p.exam) (at q.exam)))
    xs ys moved)

sums_with : {X : Type 0} (g h k m : X → X → ℕ)
    → ((x y : X) → g x y + h x y ≡ k x y + m x y) → (xs : List X)
    → sum_pairs g xs + sum_pairs h xs ≡ sum_pairs k xs + sum_pairs m xs
sums_with g h k m same [] = refl
sums_with g h k m same (x ∷ xs) =
    let own = sym (sum_by-add (g x) (h x) xs) ∙ sum_by-same _ _ (same x) xs
    ∙ sum_by-add (k x) (m x) xs in
    let more = sums_with g h k m same xs in
    omega arith

-- the part of all pairs, and the costs of the edited exams for the students concerned
part_exchanged : (cost : ℕ → ℕ → ℕ) (E : Enrolled) (old new : Placing) (edited : List ℕ)
    (pairs : List Pair)
    → ((p q : ℕ) → cost p q ≡ cost q p) → ((p : ℕ) → cost p p ≡ 0)
    → AreEnrolments E → IsPermutation (pairs_concerned E edited) pairs
    → DiffersAtMost edited old new
    → pair_part cost E (period_of new) + students_cost cost old edited pairs
    ≡ pair_part cost E (period_of old) + students_cost cost new edited pairs
part_exchanged cost E old new edited pairs either nothing known moved same =
    let v : ℕ → ℕ → ℕ = λ e f. cost_between cost (period_of old e) (period_of old f) in
    let w : ℕ → ℕ → ℕ = λ e f. cost_between cost (period_of new e) (period_of new f) in
    let all : List Pair = pairs_of E in
    let before = by_test v (sits_among E edited) all in
    let after = by_test w (sits_among E edited) all in
    let none_edited : AllByRecursion (λ p. has_number edited p.exam ≡ false)
    (filter (λ p. not (sits_among E edited p.student)) all)
    = each_filter_weaker (λ p. has E p.student p.exam ≡ true) (λ p. has_number edited p.exam ≡ false)
    (λ p. not (sits_among E edited p.student))
    (λ p sits e. not_among E p.student p.exam edited sits (not-true (sits_among E edited p.student) e))
    all (sat_each E known) in
    let others : sum_pairs (later_cost w) (filter (λ p. not (sits_among E edited p.student)) all)
    ≡ sum_pairs (later_cost v) (filter (λ p. not (sits_among E edited p.student)) all)
    = sum_pairs-agree (later_cost w) (later_cost v)
    (filter (λ p. not (sits_among E edited p.student)) all)
    (chain_from_each (λ p. has_number edited p.exam ≡ false)
    (λ p q. later_cost w p q ≡ later_cost v p q)
    (λ p q a b. ap (λ n. cond (eqb q.student p.student) n 0)
    (ap₂ (cost_between cost) (period_same p.exam a) (period_same q.exam b)))
    (filter (λ p. not (sits_among E edited p.student)) all) none_edited) in
    let old_sum =
    any_order cost (period_of old) either nothing (pairs_concerned E edited) pairs moved in
    let new_sum =
    any_order cost (period_of new) either nothing (pairs_concerned E edited) pairs moved in
    let edits : sum_pairs (later_cost w) pairs + students_cost cost old edited pairs
    ≡ sum_pairs (later_cost v) pairs + students_cost cost new edited pairs
    = sums_with (later_cost w) (later_cost (edited_cost cost old edited)) (later_cost v)
    (later_cost (edited_cost cost new edited)) edits_of pairs in
    let old_part = by_placed cost old all ∙ part_of_rows cost E old known in
    let new_part = by_placed cost new all ∙ part_of_rows cost E new known in
    omega (arith, before, after, others, old_sum, new_sum, old_part, new_part, edits)
  where
    period_same : (e : ℕ) → has_number edited e ≡ false → period_of new e ≡ period_of old e
    period_same e not_edited = grind (arith)

    edits_of : (p q : Pair)
        → later_cost (λ e f. cost_between cost (period_of new e) (period_of new f)) p q
        + later_cost (edited_cost cost old edited) p q
        ≡ later_cost (λ e f. cost_between cost (period_of old e) (period_of old f)) p q
        + later_cost (edited_cost cost new edited) p q
    edits_of p q = grind (arith, or_parts, period_same)

-- ---- sums over numbers

-- sums that differ only in the terms that pass a test
sums_exchanged : (f g : ℕ → ℕ) (test : ℕ → Bool) → ((e : ℕ) → test e ≡ false → g e ≡ f e) → (n : ℕ)
    → sum_below n g + sum_below n (λ e. cond (test e) (f e) 0)
    ≡ sum_below n f + sum_below n (λ e. cond (test e) (g e) 0)
sums_exchanged f g test same zero = refl
sums_exchanged f g test same (suc n) = search (rules, sums_exchanged f g test same n)

-- an untouched place has the same exams as before
untouched : (I : Session) (edited : List ℕ) (old new : Placing) (p r : ℕ)
    → DiffersAtMost edited old new → is_touched edited old new p r ≡ false
    → durations I new p r ≡ durations I old p r
untouched I edited old new p r same none = grind (arith, fails_among, or_parts, sum_below-same)

mixed_exchanged : (I : Session) (edited : List ℕ) (old new : Placing) → DiffersAtMost edited old new
    → mixed_part I new + mixed_cost_if I old (is_touched edited old new)
    ≡ mixed_part I old + mixed_cost_if I new (is_touched edited old new)
mixed_exchanged I edited old new same =
    sym (sum_below-add (room_mixed I new) (room_mixed_cost_if I old (is_touched edited old new))
    (length I.rooms))
    ∙ sum_below-same _ _
    (λ r. sums_exchanged (λ p. (durations I old p r - 1) * I.weights.mixed)
    (λ p. (durations I new p r - 1) * I.weights.mixed) (λ p. is_touched edited old new p r)
    (λ p none. ap (λ n. (n - 1) * I.weights.mixed) (untouched I edited old new p r same none))
    (length I.periods))
    (length I.rooms)
    ∙ sum_below-add (room_mixed I old) (room_mixed_cost_if I new (is_touched edited old new))
    (length I.rooms)

front_among : (I : Session) (E : Enrolled) (T : Placing) (edited sizes : List ℕ) → AreSizes E sizes
    → length E ≡ length I.exams
    → sum_over_exams I edited (λ e. front_by I sizes (place_of T e) e)
    ≡ sum_over_exams I edited (exam_front I E T)
front_among I E T edited sizes are exams = grind (arith, front_by_sizes, sum_below-within)

front_exchanged : (I : Session) (E : Enrolled) (old new : Placing) (edited sizes : List ℕ)
    → AreSizes E sizes → length E ≡ length I.exams → DiffersAtMost edited old new
    → front_part I E new + sum_over_exams I edited (λ e. front_by I sizes (place_of old e) e)
    ≡ front_part I E old + sum_over_exams I edited (λ e. front_by I sizes (place_of new e) e)
front_exchanged I E old new edited sizes are exams same =
    ap (λ n. front_part I E new + n) (front_among I E old edited sizes are exams)
    ∙ sums_exchanged (exam_front I E old) (exam_front I E new) (has_number edited)
    (λ e none. ap (λ o. cond (is_largest I E e && is_late I o) I.weights.front 0) (same e none))
    (length I.exams)
    ∙ ap (λ n. front_part I E old + n) (sym (front_among I E new edited sizes are exams))

-- ---- the whole

-- the total of the fold's sums and its open student
sums_of_all : (I : Session) (T : Placing) (edited : List ℕ) (sum : PersonalPenalty)
    (closed current pairs : List Pair)
    → sum ≡ personal_sum I T edited closed → pairs ≡ closed ++ current
    → AllByRecursion (λ p. AllByRecursion (λ q. p.student < q.student) current) closed
    → penalty_sum sum (personal_sum I T edited current) ≡ personal_sum I T edited pairs
sums_of_all I T edited sum closed current pairs is parts others = search (rules, sum_apart)

pub track_exchanged : (fold : Folded) (E : Enrolled) (pairs : List Pair)
    (sizes : List ℕ) (old : Penalty)
    → RepresentsPairs fold pairs → IsOfEdit fold E pairs sizes old
    → IsExchanged old (old_amounts fold sizes) (new_amounts fold sizes) (track fold.instance E fold.later)
track_exchanged fold E pairs sizes old h is =
    let I = fold.instance in
    let others = others_each h.closed fold.current h.others in
    let before =
    sums_of_all I fold.earlier fold.edited fold.before h.closed fold.current pairs h.before
    h.parts others in
    let after = sums_of_all I fold.later fold.edited fold.after h.closed fold.current pairs h.after
    h.parts others in
    let exchanged : (k : Kind) → amount (pairs_in (track I E fold.later)) k
    + amount (pairs_in (old_amounts fold sizes)) k
    ≡ amount (pairs_in old) k + amount (pairs_in (new_amounts fold sizes)) k
    = λ k. (let part = part_exchanged (cost_in I k) E fold.earlier fold.later fold.edited pairs
    (kind_cost-swap I.periods I.weights k) (kind_cost-none I.periods I.weights k)
    is.enrolments is.concerned is.others in
    let was = ap (λ p. amount (pairs_in p) k) is.scored
    ∙ at_kind (λ k. pair_part (cost_in I k) E (period_of fold.earlier)) k in
    let now = at_kind (λ k. pair_part (cost_in I k) E (period_of fold.later)) k in
    let goes = ap (λ p. amount p k) before
    ∙ at_kind (λ k. students_cost (cost_in I k) fold.earlier fold.edited pairs) k in
    let comes = ap (λ p. amount p k) after
    ∙ at_kind (λ k. students_cost (cost_in I k) fold.later fold.edited pairs) k in
    omega arith) in
    record {
      pairs = each_kind exchanged;
      mixed = mixed_exchanged I fold.edited fold.earlier fold.later is.others
          ∙ ap (λ p. p.mixed + (new_amounts fold sizes).mixed) (sym is.scored);
      front = front_exchanged I E fold.earlier fold.later fold.edited sizes is.sized
          is.fits.enrolments is.others
          ∙ ap (λ p. p.front + (new_amounts fold sizes).front) (sym is.scored);
      period = sums_exchanged (λ e. exam_period I (place_of fold.earlier e))
          (λ e. exam_period I (place_of fold.later e)) (has_number fold.edited)
          (λ e none. ap (exam_period I) (is.others e none)) (length I.exams)
          ∙ ap (λ p. p.period + (new_amounts fold sizes).period) (sym is.scored);
      room = sums_exchanged (λ e. exam_room I (place_of fold.earlier e))
          (λ e. exam_room I (place_of fold.later e)) (has_number fold.edited)
          (λ e none. ap (exam_room I) (is.others e none)) (length I.exams)
          ∙ ap (λ p. p.room + (new_amounts fold sizes).room) (sym is.scored);
    }

-- an exchange has one result
pub exchanged_once : (old goes comes new x : Penalty) → IsExchanged old goes comes x
    → IsExchanged old goes comes new → x ≡ new
exchanged_once old goes comes new x made is = search (rules)

exchange_is : (old goes comes new : Penalty) (r : Option Penalty)
    → IfSome r (IsExchanged old goes comes) → IfNone r (CannotExchange old goes comes)
    → IsExchanged old goes comes new → total_of new < 2 ^ 62 → r ≡ Some new
exchange_is old goes comes new None made none is small =
    absurd (let great = none new is in omega (arith, great, small))
exchange_is old goes comes new (Some x) made none is small =
    ap Some (exchanged_once old goes comes new x made is)

-- so its result is the new penalty
pub exchange_scores : (fold : Folded) (E : Enrolled) (pairs : List Pair) (sizes : List ℕ)
    (old : Penalty) (r : Option Penalty)
    → IsInstance fold.instance
    → IfSome r (IsExchanged old (old_amounts fold sizes) (new_amounts fold sizes))
    → IfNone r (CannotExchange old (old_amounts fold sizes) (new_amounts fold sizes))
    → RepresentsPairs fold pairs → IsOfEdit fold E pairs sizes old
    → r ≡ Some (track fold.instance E fold.later)
exchange_scores fold E pairs sizes old r known made none h is =
    search (rules, exchange_is, penalty_small, track_exchanged)
