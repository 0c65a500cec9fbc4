-- The mixed part of the periods and rooms that pass, with one more place.
use Rattle.std.proofs.Common.{◌≡◌, ℕ, ◌+◌, ◌-◌, ◌*◌, Bool, true, false, cond, ◌&&◌, ◌||◌, eqb, ltb, List, ◌∷◌, length, Option, None, Some, refl, ◌∙◌, ap, arith, add-zero}
use Rattle.exam_lists.proofs.Booleans.{cond_and_and_not, cond_or_and, or_turned}
use Rattle.exam_terms.specs.declared.place.Place.{Place}
use Rattle.exam_model.specs.Instance.{Session}
use Rattle.exam_model.specs.Sums.{sum_below}
use Rattle.exam_model.specs.Timetable.{Placing, place_of}
use Rattle.exam_model.proofs.SumLemmas.{sum_below-same, sum_below-add, sum_below-at, sum_below-zeros}
use Rattle.exam_score.specs.Touched.{further_mixed, is_touched, mixed_cost_if, room_mixed_cost_if}
use Rattle.exam_score.specs.MixedDurations.{durations, is_at}

-- the share of a period and room in the mixed part
abbrev mixed : Session → Placing → ℕ → ℕ → ℕ
mixed I T p r = (durations I T p r - 1) * I.weights.mixed

-- whether a period and room pass, or are an exam's place
abbrev or_at : (ℕ → ℕ → Bool) → Option Place → ℕ → ℕ → Bool
or_at f o p r = f p r || is_at p r o

-- ---- sums over rooms and periods

mixed_same : (I : Session) (T : Placing) (f g : ℕ → ℕ → Bool) → ((p r : ℕ) → f p r ≡ g p r)
    → mixed_cost_if I T f ≡ mixed_cost_if I T g
mixed_same I T f g same = grind (arith, sum_below-same)

pub mixed_none : (I : Session) (T : Placing) → mixed_cost_if I T (λ p r. false) ≡ 0
mixed_none I T =
    sum_below-same _ _ (λ r. sum_below-zeros (length I.periods)) (length I.rooms)
    ∙ sum_below-zeros (length I.rooms)

-- a sum whose terms all pass or all fail
sum_if : (b : Bool) (g : ℕ → ℕ) (n : ℕ) → sum_below n (λ e. cond b (g e) 0)
    ≡ cond b (sum_below n g) 0
sum_if true g n = refl
sum_if false g n = sum_below-zeros n

-- ---- one more place

-- the sum grows by the place's share, if the place exists and did not pass
one_place : (I : Session) (T : Placing) (f : ℕ → ℕ → Bool) (o : Option Place)
    → mixed_cost_if I T (or_at f o) ≡ mixed_cost_if I T f + further_mixed I T f o
one_place I T f None = grind (arith, add-zero, mixed_same)
one_place I T f (Some at) =
    sum_below-same _ _ by_room (length I.rooms)
    ∙ sum_below-add (room_mixed_cost_if I T f) (λ r. cond (eqb at.room r) (of_period r) 0)
    (length I.rooms)
    ∙ ap (λ n. mixed_cost_if I T f + n)
    (sum_below-at of_period at.room (length I.rooms)
    ∙ cond_and_and_not (ltb at.room (length I.rooms)) (ltb at.period (length I.periods))
    (f at.period at.room)
    (mixed I T at.period at.room))
  where
    term : ℕ → ℕ → ℕ
    term r p = cond (f p r) 0 (mixed I T p r)

    of_period : ℕ → ℕ
    of_period r = cond (ltb at.period (length I.periods)) (term r at.period) 0

    by_room : (r : ℕ) → room_mixed_cost_if I T (or_at f (Some at)) r
        ≡ room_mixed_cost_if I T f r + cond (eqb at.room r) (of_period r) 0
    by_room r =
        sum_below-same _ _ (λ p. cond_or_and (f p r) (eqb at.period p) (eqb at.room r) (mixed I T p r))
        (length I.periods)
        ∙ sum_below-add _ (λ p. cond (eqb at.room r) (cond (eqb at.period p) (term r p) 0) 0)
        (length I.periods)
        ∙ ap (λ n. room_mixed_cost_if I T f r + n)
        (sum_if (eqb at.room r) (λ p. cond (eqb at.period p) (term r p) 0) (length I.periods)
        ∙ ap (λ n. cond (eqb at.room r) n 0) (sum_below-at (term r) at.period (length I.periods)))

-- with another place it grows by as much, or by nothing if the two are the same
beside : (I : Session) (T : Placing) (f : ℕ → ℕ → Bool) (o : Option Place) (at : Place) (b : Bool)
    → b ≡ is_at at.period at.room o
    → further_mixed I T (or_at f o) (Some at) ≡ cond b 0 (further_mixed I T f (Some at))
beside I T f o at b is = grind (arith)

-- ---- the two places of one more exam

-- the earlier place, followed by the later one
both_places : (I : Session) (T : Placing) (e : ℕ) (edited : List ℕ) (old new : Placing)
    → mixed_cost_if I T (is_touched edited old new)
    + (further_mixed I T (is_touched edited old new) (place_of old e)
    + further_mixed I T (or_at (is_touched edited old new) (place_of old e)) (place_of new e))
    ≡ mixed_cost_if I T (is_touched (e ∷ edited) old new)
both_places I T e edited old new =
    let f = is_touched edited old new in
    let first = one_place I T f (place_of old e) in
    let second = one_place I T (or_at f (place_of old e)) (place_of new e) in
    let whole = mixed_same I T (or_at (or_at f (place_of old e)) (place_of new e))
    (is_touched (e ∷ edited) old new)
    (λ p r. or_turned (f p r) (is_at p r (place_of old e)) (is_at p r (place_of new e))) in
    omega arith

-- the exam has no later place
pub earlier_place : (I : Session) (T : Placing) (e : ℕ) (edited : List ℕ) (old new : Placing)
    → place_of new e ≡ None
    → mixed_cost_if I T (is_touched edited old new)
    + further_mixed I T (is_touched edited old new) (place_of old e)
    ≡ mixed_cost_if I T (is_touched (e ∷ edited) old new)
earlier_place I T e edited old new none = grind (arith, both_places)

-- the exam has a later place, which may equal the earlier one
pub later_place : (I : Session) (T : Placing) (e : ℕ) (edited : List ℕ) (old new : Placing)
    (at : Place) (b : Bool)
    → place_of new e ≡ Some at → b ≡ is_at at.period at.room (place_of old e)
    → mixed_cost_if I T (is_touched edited old new)
    + (further_mixed I T (is_touched edited old new) (place_of old e)
    + cond b 0 (further_mixed I T (is_touched edited old new) (Some at)))
    ≡ mixed_cost_if I T (is_touched (e ∷ edited) old new)
later_place I T e edited old new at b is here = grind (arith, beside, both_places)
