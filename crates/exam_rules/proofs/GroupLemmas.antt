-- The exams of a period's group.
use Rattle.std.proofs.lemmas.Grind.{common_steps}
use Rattle.std.specs.Prelude.{All}
use Rattle.std.proofs.Common.{◌≡◌, ℕ, ◌<◌, Bool, true, false, ◌&&◌, ◌==◌, not, nat_lt, List, [], length, get_or, Option, Some, None, refl, sym, ◌∙◌, ap, arith, ltb-true, eq-eqb, eqb-true}
use Rattle.std.specs.List.{list_any}
use Rattle.std.proofs.lemmas.Bool.{and_parts, and_from, lt-ltb, true≢false}
use Rattle.std.proofs.lemmas.List.Folds.{Any-from_list_any, list_any_at}
use Rattle.std.proofs.lemmas.List.{get_or_read}
use Rattle.std.proofs.Math.Bool.{and-false}
use Rattle.exam_lists.proofs.Booleans.{and_swap, same_tests}
use Rattle.exam_model.specs.Instance.{Session}
use Rattle.exam_model.specs.Timetable.{Placing, place_of}
use Rattle.exam_terms.specs.declared.place.Place.{Place}
use Rattle.exam_rules.specs.Places.{PlaceExists, place_satisfies, both_satisfy, in_one_period, in_one_place}
use Rattle.exam_model.specs.Enrolments.{has_number}
use Rattle.exam_rules.specs.Groups.{is_placed_in, AreGroups}
use Rattle.exam_rules.proofs.PlaceLemmas.{placed_exists, its_place_exists}

-- a complete group has exactly the exams that are in its period
pub in_group : {T : Placing} {periods n : ℕ} {groups : List (List ℕ)}
    → AreGroups T periods n groups → length T ≡ n
    → (p f : ℕ) → p < periods → has_number (get_or groups p []) f ≡ is_placed_in T p f
in_group {T} {periods} {n} {groups} are same p f within =
    grind (arith, common_steps, and-false, and_from, lt-ltb, placed_exists)

-- the exams of a group exist
pub group_exists : {T : Placing} {periods n : ℕ} {groups : List (List ℕ)}
    → AreGroups T periods n groups
    → (p : ℕ) → p < periods → All (λ f. f < n) (get_or groups p [])
group_exists {T} {periods} {n} {groups} are p within k d lt =
    let group : List ℕ = get_or groups p [] in
    let x : ℕ = get_or group k d in
    let there = list_any_at (λ y. y == x) group k d lt (eq-eqb x x refl) in
    ltb-true x n (and_parts (nat_lt x n) (is_placed_in T p x)
    (sym (are.members p x within) ∙ there)).0

-- the pairs with an exam's group, as the rule on rooms names them
pub one_place_group : {T : Placing} {periods n : ℕ} {groups : List (List ℕ)}
    → AreGroups T periods n groups → length T ≡ n
    → (k : ℕ) (q : Place) → place_of T k ≡ Some q → q.period < periods → (e f : ℕ)
    → (has_number (get_or groups q.period []) f
    && ((k == e) && (not (e == f) && in_one_place T e f)))
    ≡ ((k == e) && (not (e == f) && in_one_place T e f))
one_place_group {T} {periods} {n} {groups} are same k q placed within e f =
    grind (arith, common_steps, and-false, and_swap, eqb-true, in_group)

-- an exam without a place is in no room with another
pub no_place : (T : Placing) (k : ℕ) → place_of T k ≡ None → (e f : ℕ)
    → false ≡ ((k == e) && (not (e == f) && in_one_place T e f))
no_place T k unplaced e f = grind (arith, common_steps, and-false, eqb-true)

-- exams that are in period k are in one period
one_period : (k : ℕ) (p q : Option Place) → place_satisfies (λ x. k == x.period) p ≡ true
    → place_satisfies (λ x. k == x.period) q ≡ true
    → both_satisfy (λ x y. x.period == y.period) p q ≡ true
one_period k None q h g = h
one_period k (Some p) None h g = g
one_period k (Some p) (Some q) h g =
    eq-eqb p.period q.period (sym (eqb-true k p.period h) ∙ eqb-true k q.period g)

-- two exams are in one of the groups exactly if they are in one period
pub in_one_group : {T : Placing} {periods n : ℕ} {groups : List (List ℕ)} (I : Session)
    → AreGroups T periods n groups → length T ≡ n
    → periods ≡ length I.periods → All (PlaceExists I) T → (e f : ℕ)
    → list_any (λ g. has_number g e && has_number g f) groups ≡ in_one_period T e f
in_one_group {T} {periods} {n} {groups} I are same count exist e f =
    same_tests (list_any (λ g. has_number g e && has_number g f) groups) (in_one_period T e f) sound
    (λ h. complete (place_of T e) refl h)
  where
    sound : list_any (λ g. has_number g e && has_number g f) groups ≡ true
        → in_one_period T e f ≡ true
    sound h =
        let any = Any-from_list_any (λ g. has_number g e && has_number g f) groups h in
        let within : any.0 < periods = omega (arith, any.2, are.count) in
        let here : get_or groups any.0 [] ≡ any.1 =
        sym (get_or_read groups any.0 any.1 any.2 (sym any.3) []) in
        let parts = and_parts (has_number any.1 e) (has_number any.1 f) any.4 in
        let first = sym (in_group are same any.0 e within)
        ∙ ap (λ g. has_number g e) here ∙ parts.0 in
        let second =
        sym (in_group are same any.0 f within) ∙ ap (λ g. has_number g f) here ∙ parts.1 in
        one_period any.0 (place_of T e) (place_of T f) first second

    complete : (o : Option Place) → place_of T e ≡ o
        → both_satisfy (λ p q. p.period == q.period) o (place_of T f) ≡ true
        → list_any (λ g. has_number g e && has_number g f) groups ≡ true
    complete None is h = absurd (true≢false (sym h))
    complete (Some p) is h =
        let there = its_place_exists I T e p exist is in
        let within : p.period < periods = omega (arith, there.0) in
        let long : p.period < length groups = omega (arith, are.count) in
        let first = in_group are same p.period e within
        ∙ ap (place_satisfies (λ q. p.period == q.period)) is ∙ eq-eqb p.period p.period refl in
        let second = in_group are same p.period f within ∙ h in
        list_any_at (λ g. has_number g e && has_number g f) groups p.period [] long
        (and_from (has_number (get_or groups p.period []) e)
        (has_number (get_or groups p.period []) f) first second)
