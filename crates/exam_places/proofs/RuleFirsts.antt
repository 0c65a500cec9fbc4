-- The first breaches of an exam at a place, by what it meets there.
use Rattle.std.specs.Option.{option_or}
use Rattle.std.proofs.Common.{◌≡◌, ◌≢◌, ℕ, ◌+◌, ◌<◌, Bool, true, false, cond, ◌&&◌, ◌==◌, not, [], ◌∷◌, length, set, Option, Some, None, refl, sym, ◌∙◌, ap, ap₂, arith, nat_lt, option_map, slice_get, length-set}
use Rattle.std.proofs.lemmas.Bool.{cases_eq}
use Rattle.std.proofs.lemmas.Bool.Decides.{nat_tests}
use Rattle.exam_lists.proofs.Booleans.{eqb_swap}
use Rattle.exam_lists.proofs.Options.{option_or_none}
use Rattle.exam_terms.specs.declared.place.Place.{Place}
use Rattle.exam_model.specs.Enrolments.{Enrolled, size_of}
use Rattle.exam_model.specs.Instance.{Session}
use Rattle.exam_model.specs.Timetable.{Placing, place_of}
use Rattle.exam_rules.specs.declared.breach.BreachRule.{BreachRule}
use Rattle.exam_rules.specs.declared.breach.BreachRule.TheVariants.{Duration, Clash, Capacity, RoomExclusive}
use Rattle.exam_rules.specs.Breaches.{first_among}
use Rattle.exam_rules.specs.HardRules.{breaks, is_longer, is_overfull, is_too_long, is_too_small}
use Rattle.exam_rules.specs.Places.{both_satisfy, is_one_place, load_at, load_below, place_satisfies}
use Rattle.exam_places.specs.Breaches.{clash_with, exclusive_breach, own_breach}
use Rattle.exam_places.specs.Firsts.{first_below}
use Rattle.exam_places.specs.Groups.{capacity_rules, early_rules, exclusive_rules}
use Rattle.exam_places.specs.PeriodTable.{is_in}
use Rattle.exam_places.specs.PlaceTable.{is_here, is_keeper}
use Rattle.exam_places.specs.Shares.{shared_of}
use Rattle.exam_places.proofs.BreachSplit.{among_more, early_by_rule, first_of}
use Rattle.exam_places.proofs.FirstPairs.{clash_first, exclusive_first, own_first}
use Rattle.exam_places.proofs.PairShares.{greater_last, smaller_first}
use Rattle.exam_places.proofs.PlacedLemmas.{other_place, own_place}
use Rattle.exam_places.proofs.SumSteps.{one_added}

one_place-swap : (a b : Place) → is_one_place a b ≡ is_one_place b a
one_place-swap a b = ap₂ (λ c d. c && d) (eqb_swap a.period b.period) (eqb_swap a.room b.room)

own_one_place : (a : Place) → is_one_place a a ≡ true
own_one_place a = grind (arith, nat_tests)

from_right : (test : Place → Place → Bool) (a : Place) (o : Option Place)
    → both_satisfy test o (Some a) ≡ place_satisfies (λ p. test p a) o
from_right test a None = refl
from_right test a (Some p) = refl

-- ---- the places of all exams, if one is put at a place

-- the exam had no place
nowhere : (W : Placing) (e : ℕ) → set W e None ≡ W → e < length W → place_of W e ≡ None
nowhere W e unplaced within = ap (λ U. place_of U e) (sym unplaced) ∙ own_place W e None within

-- the other exams keep theirs
others_stay : (W : Placing) (e : ℕ) (a : Place) → set W e None ≡ W → (f : ℕ) → f ≢ e
    → place_of (set W e (Some a)) f ≡ place_of W f
others_stay W e a unplaced f ne =
    other_place W e (Some a) None f ne ∙ ap (λ U. place_of U f) unplaced

-- ---- rule by rule

-- the first breach of one rule alone
alone : (I : Session) (E : Enrolled) (T : Placing) (e : ℕ) (r : BreachRule)
    → first_among I E T (e ∷ []) (r ∷ []) ≡ first_of I E T (e ∷ []) r
alone I E T e r = among_more I E T (e ∷ []) r [] ∙ option_or_none (first_of I E T (e ∷ []) r)

duration_there : (I : Session) (E : Enrolled) (W : Placing) (e : ℕ) (a : Place)
    → e < length W → e < length I.exams
    → first_of I E (set W e (Some a)) (e ∷ []) Duration
    ≡ cond (is_longer (slice_get I.exams e) (slice_get I.periods a.period))
    (Some (own_breach Duration e)) None
duration_there I E W e a placed within =
    own_first I E (set W e (Some a)) e Duration (is_too_long I (set W e (Some a))) (λ x y. refl) within
    ∙ ap (λ o. cond (place_satisfies
    (λ p. is_longer (slice_get I.exams e) (slice_get I.periods p.period)) o)
    (Some (own_breach Duration e)) None) (own_place W e (Some a) placed)

clash_there : (I : Session) (E : Enrolled) (W : Placing) (e : ℕ) (a : Place)
    → set W e None ≡ W → length W ≡ length I.exams → e < length I.exams
    → first_of I E (set W e (Some a)) (e ∷ []) Clash
    ≡ option_map (clash_with e) (first_below (length I.exams)
    (λ f. is_in W a.period f && nat_lt 0 (shared_of E e f)))
clash_there I E W e a unplaced fits within =
    clash_first I E T e test (length-set W e (Some a) ∙ fits) within own before after
  where
    T : Placing
    T = set W e (Some a)

    placed : e < length W
    placed = omega (arith, fits, within)

    test : ℕ → Bool
    test f = is_in W a.period f && nat_lt 0 (shared_of E e f)

    own : test e ≡ false
    own = ap (λ o. place_satisfies (λ p. p.period == a.period) o && nat_lt 0 (shared_of E e e))
        (nowhere W e unplaced placed)

    before : (f : ℕ) → f < e → breaks I E T Clash f e ≡ test f
    before f less = grind (arith, from_right, others_stay, own_place, placed, smaller_first)

    after : (f : ℕ) → e < f → breaks I E T Clash e f ≡ test f
    after f more = grind (arith, eqb_swap, greater_last, others_stay, own_place, placed)

-- the first breach of the two rules on periods
pub early_is : (I : Session) (E : Enrolled) (W : Placing) (e : ℕ) (a : Place)
    → set W e None ≡ W → length W ≡ length I.exams → e < length I.exams
    → first_among I E (set W e (Some a)) (e ∷ []) early_rules
    ≡ option_or (cond (is_longer (slice_get I.exams e) (slice_get I.periods a.period))
    (Some (own_breach Duration e)) None)
    (option_map (clash_with e) (first_below (length I.exams)
    (λ f. is_in W a.period f && nat_lt 0 (shared_of E e f))))
early_is I E W e a unplaced fits within =
    early_by_rule I E (set W e (Some a)) (e ∷ [])
    ∙ ap₂ option_or (duration_there I E W e a (omega (arith, fits, within)) within)
    (option_or_none (first_of I E (set W e (Some a)) (e ∷ []) Clash)
    ∙ clash_there I E W e a unplaced fits within)

-- the students of the exam come to those at its place
load_there : (E : Enrolled) (W : Placing) (e : ℕ) (a : Place) → set W e None ≡ W
    → e < length W → e < length E
    → load_at E (set W e (Some a)) a ≡ load_at E W a + size_of E e
load_there E W e a unplaced placed within =
    one_added (λ f. size_if f (place_of W f)) (λ f. size_if f (place_of (set W e (Some a)) f)) e
    (length E) within
    (λ f ne. ap (size_if f) (others_stay W e a unplaced f ne))
    (ap (size_if e) (nowhere W e unplaced placed))
    ∙ ap (λ n. load_at E W a + n)
    (ap (size_if e) (own_place W e (Some a) placed)
    ∙ ap (λ b. cond b (size_of E e) 0) (own_one_place a))
  where
    size_if : ℕ → Option Place → ℕ
    size_if f o = cond (place_satisfies (is_one_place a) o) (size_of E f) 0

-- the breach of the room's capacity
pub capacity_is : (I : Session) (E : Enrolled) (W : Placing) (e : ℕ) (a : Place)
    → set W e None ≡ W → length W ≡ length I.exams → length E ≡ length I.exams
    → e < length I.exams
    → first_among I E (set W e (Some a)) (e ∷ []) capacity_rules
    ≡ cond (is_too_small (slice_get I.rooms a.room)
    (load_below E W a (length I.exams) + size_of E e))
    (Some (own_breach Capacity e)) None
capacity_is I E W e a unplaced fits enrolled within =
    let placed : e < length W = omega (arith, fits, within) in
    alone I E (set W e (Some a)) e Capacity
    ∙ own_first I E (set W e (Some a)) e Capacity (is_overfull I E (set W e (Some a)))
    (λ x y. refl) within
    ∙ ap (λ b. cond b (Some (own_breach Capacity e)) None)
    (ap (place_satisfies (λ p. is_too_small (slice_get I.rooms p.room)
    (load_at E (set W e (Some a)) p))) (own_place W e (Some a) placed)
    ∙ ap (is_too_small (slice_get I.rooms a.room))
    (load_there E W e a unplaced placed (omega (arith, enrolled, within))
    ∙ ap (λ n. load_below E W a n + size_of E e) enrolled))

-- the first breach of a room that is not to be shared
pub exclusive_is : (I : Session) (E : Enrolled) (W : Placing) (e : ℕ) (a : Place)
    → set W e None ≡ W → length W ≡ length I.exams → e < length I.exams
    → first_among I E (set W e (Some a)) (e ∷ []) exclusive_rules
    ≡ exclusive_breach e (is_keeper I e) (first_below (length I.exams) (is_here W a))
    (first_below (length I.exams) (λ f. is_here W a f && is_keeper I f))
exclusive_is I E W e a unplaced fits within =
    alone I E T e RoomExclusive
    ∙ exclusive_first I E T e (is_here W a) (is_keeper I) (length-set W e (Some a) ∙ fits) within own
    (λ f. ap (λ b. is_keeper I f && b) (before f)) (λ f. ap (λ b. is_keeper I e && b) (after f))
  where
    T : Placing
    T = set W e (Some a)

    placed : e < length W
    placed = omega (arith, fits, within)

    own : is_here W a e ≡ false
    own = ap (place_satisfies (is_one_place a)) (nowhere W e unplaced placed)

    twice : (not (e == e) && both_satisfy is_one_place (place_of T e) (place_of T e))
        ≡ is_here W a e
    twice = grind (arith, T, own)

    before : (f : ℕ) → (not (f == e) && both_satisfy is_one_place (place_of T f) (place_of T e))
        ≡ is_here W a f
    before f =
        grind (
          arith,
          T,
          cases_eq,
          from_right,
          one_place-swap,
          others_stay,
          own_place,
          placed,
          twice,
        )

    after : (f : ℕ) → (not (e == f) && both_satisfy is_one_place (place_of T e) (place_of T f))
        ≡ is_here W a f
    after f = grind (arith, T, cases_eq, others_stay, own_place, placed, twice)
