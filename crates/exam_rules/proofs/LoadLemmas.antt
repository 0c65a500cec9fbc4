-- The table of loads, one more exam at a time.
use Rattle.std.proofs.lemmas.Grind.{common_steps}
use Rattle.std.proofs.Common.{◌≡◌, ℕ, ◌+◌, ◌*◌, ◌^◌, ◌<◌, ◌≤◌, ◌⊎◌, inl, inr, true, false, cond, ◌==◌, List, length, get_or, slice_set, Some, sym, ◌∙◌, ap, arith, add-one, eqb-true, eq-eqb, rules}
use Rattle.std.proofs.lemmas.Bool.{and_parts, and_from, cases_eq, false_from_ne_true}
use Rattle.std.proofs.lemmas.List.{length-set, get_or-set_same, get_or-set_other}
use Rattle.std.proofs.lemmas.Nat.{same_from_place}
use Rattle.exam_model.specs.Enrolments.{Enrolled, size_of}
use Rattle.exam_model.specs.Fits.{slot_of}
use Rattle.exam_model.specs.Timetable.{Placing, place_of}
use Rattle.exam_terms.specs.declared.place.Place.{Place}
use Rattle.exam_rules.specs.Places.{place_satisfies, is_one_place, load_below}
use Rattle.exam_rules.specs.Loads.{AreLoads}
use Rattle.exam_model.proofs.PlaceLemmas.{slot_within}

-- an exam that is not placed at p
other_place : (E : Enrolled) (T : Placing) (p : Place) (i : ℕ)
    → place_satisfies (is_one_place p) (place_of T i) ≡ false
    → load_below E T p (i + 1) ≡ load_below E T p i
other_place E T p i elsewhere =
    rw add-one (ap (λ b. load_below E T p i + cond b (size_of E i) 0) elsewhere ∙ omega arith)

-- an exam that is placed at p
this_place : (E : Enrolled) (T : Placing) (p : Place) (i : ℕ)
    → place_satisfies (is_one_place p) (place_of T i) ≡ true
    → load_below E T p (i + 1) ≡ load_below E T p i + size_of E i
this_place E T p i here = rw add-one (ap (λ b. load_below E T p i + cond b (size_of E i) 0) here)

-- an exam that is placed at q
pub loads_more : {E : Enrolled} {T : Placing} {periods rooms i : ℕ} {loads : List ℕ}
    {q : Place} {load : ℕ}
    → AreLoads E T periods rooms i loads → place_of T i ≡ Some q → q.period < periods
    → q.room < rooms
    → load ≡ get_or loads (slot_of rooms q) 0 + size_of E i → size_of E i < 2 ^ 32
    → AreLoads E T periods rooms (i + 1) (slice_set loads (slot_of rooms q) load)
loads_more {E} {T} {periods} {rooms} {i} {loads} {q} {load} so_far placed hq hr is few = record {
  count = length-set loads (slot_of rooms q) load ∙ so_far.count;
  each = λ p pp pr. each p pp pr (cases_eq (slot_of rooms p) (slot_of rooms q));
  small = λ k. small k (cases_eq k (slot_of rooms q));
}
  where
    within : slot_of rooms q < length loads
    within = omega (arith, slot_within periods rooms q hq hr, so_far.count)

    each : (p : Place) → p.period < periods → p.room < rooms
        → (slot_of rooms p ≡ slot_of rooms q) ⊎ (slot_of rooms p ≡ slot_of rooms q → ⊥)
        → get_or (slice_set loads (slot_of rooms q) load) (slot_of rooms p) 0
        ≡ load_below E T p (i + 1)
    each p pp pr (inl same) =
        let parts = same_from_place p.period p.room q.period q.room rooms pr hr same in
        let one : is_one_place p q ≡ true =
        and_from (p.period == q.period) (p.room == q.room) (eq-eqb p.period q.period parts.0)
        (eq-eqb p.room q.room parts.1) in
        ap (λ k. get_or (slice_set loads (slot_of rooms q) load) k 0) same
        ∙ get_or-set_same loads (slot_of rooms q) load 0 within
        ∙ is
        ∙ ap (λ k. get_or loads k 0 + size_of E i) (sym same)
        ∙ ap (λ n. n + size_of E i) (so_far.each p pp pr)
        ∙ sym (this_place E T p i (ap (place_satisfies (is_one_place p)) placed ∙ one))
    each p pp pr (inr other) =
        search (rules, and_parts, eqb-true, false_from_ne_true, get_or-set_other, other_place)

    small : (k : ℕ) → (k ≡ slot_of rooms q) ⊎ (k ≡ slot_of rooms q → ⊥)
        → get_or (slice_set loads (slot_of rooms q) load) k 0 ≤ (i + 1) * 2 ^ 32
    small k (inl same) = grind (arith, common_steps, get_or-set_same, slice_set, within)
    small k (inr other) = grind (arith, common_steps, get_or-set_other)
