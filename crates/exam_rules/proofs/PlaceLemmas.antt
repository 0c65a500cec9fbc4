-- Only placed exams break a rule, so they exist.
use Rattle.std.proofs.lemmas.Grind.{common_steps}
use Rattle.std.specs.Prelude.{All}
use Rattle.std.proofs.Common.{◌≡◌, ℕ, ◌<◌, inl, inr, Bool, true, ◌&&◌, ◌==◌, length, Option, Some, None, refl, sym, ◌∙◌, ap, subst, arith, eqb-true}
use Rattle.std.proofs.lemmas.Bool.{and_parts, cases_lt, true≢false}
use Rattle.std.proofs.lemmas.List.{get_or_past}
use Rattle.exam_model.specs.Instance.{Session}
use Rattle.exam_model.specs.Enrolments.{Enrolled}
use Rattle.exam_model.specs.Timetable.{Placing, place_of}
use Rattle.exam_terms.specs.declared.place.Place.{Place}
use Rattle.exam_rules.specs.declared.breach.BreachRule.{BreachRule}
use Rattle.exam_rules.specs.declared.breach.BreachRule.TheVariants.{Duration, Clash, Capacity, After, Coincidence, Exclusion, RoomExclusive}
use Rattle.exam_rules.specs.Places.{PlaceExists, place_satisfies, both_satisfy, both_placed}
use Rattle.exam_rules.specs.HardRules.{breaks}

-- an exam whose place passes a test exists
pub placed_exists : (T : Placing) (test : Place → Bool) (e : ℕ)
    → place_satisfies test (place_of T e) ≡ true
    → e < length T
placed_exists T test e h = elim (cases_lt e (length T)) as (λ _. e < length T) [
  | inl within ↦ within
  | inr past ↦ absurd (true≢false (sym h ∙ ap (place_satisfies test) (get_or_past T e None past)))
]

first_placed : (test : Place → Place → Bool) (p q : Option Place) → both_satisfy test p q ≡ true
    → place_satisfies (λ x. true) p ≡ true
first_placed test None q h = h
first_placed test (Some p) q h = refl

second_placed : (test : Place → Place → Bool) (p q : Option Place) → both_satisfy test p q ≡ true
    → place_satisfies (λ x. true) q ≡ true
second_placed test None q h = absurd (true≢false (sym h))
second_placed test (Some p) None h = h
second_placed test (Some p) (Some q) h = refl

pub both_exist : (T : Placing) (test : Place → Place → Bool) (e f : ℕ)
    → both_placed T test e f ≡ true
    → (e < length T) × (f < length T)
both_exist T test e f h = (
  placed_exists T (λ x. true) e (first_placed test (place_of T e) (place_of T f) h),
  placed_exists T (λ x. true) f (second_placed test (place_of T e) (place_of T f) h),
)

-- the exams that break a rule exist
pub breaking_exist : (I : Session) (E : Enrolled) (T : Placing) (r : BreachRule) (n : ℕ)
    → length T ≡ n → (e f : ℕ)
    → breaks I E T r e f ≡ true → (e < n) × (f < n)
breaking_exist I E T Duration n same e f h =
    grind (arith, common_steps, and_parts, eqb-true, placed_exists)
breaking_exist I E T Clash n same e f h = grind (arith, common_steps, and_parts, both_exist)
breaking_exist I E T Capacity n same e f h =
    grind (arith, common_steps, and_parts, eqb-true, placed_exists)
breaking_exist I E T After n same e f h = grind (arith, common_steps, and_parts, both_exist)
breaking_exist I E T Coincidence n same e f h = grind (arith, common_steps, and_parts, both_exist)
breaking_exist I E T Exclusion n same e f h = grind (arith, common_steps, and_parts, both_exist)
breaking_exist I E T RoomExclusive n same e f h = grind (arith, common_steps, and_parts, both_exist)

-- an exam's place exists
pub place_exists : (I : Session) (T : Placing) (e : ℕ) (p : Place)
    → All (PlaceExists I) T → e < length T
    → place_of T e ≡ Some p → PlaceExists I (Some p)
place_exists I T e p all within here = subst (PlaceExists I) here (all e None within)

-- an exam with a place exists, and so does its place
pub its_place_exists : (I : Session) (T : Placing) (e : ℕ) (p : Place) → All (PlaceExists I) T
    → place_of T e ≡ Some p → PlaceExists I (Some p)
its_place_exists I T e p all here = grind (arith, common_steps, place_exists, placed_exists)
