-- The different durations of a room and period, by stays without repeats.
use Rattle.std.proofs.lemmas.Grind.{common_steps}
use Rattle.std.specs.List.{list_any, dedup}
use Rattle.std.specs.Ordering.{nat_cmp, ordering_then, eq_by_cmp}
use Rattle.std.specs.Cmp.{then_total, on_total, nat_cmp_total, IsTotalOrder, IsEquivalence}
use Rattle.std.proofs.Common.{◌≡◌, ℕ, ◌+◌, ◌-◌, ◌*◌, ◌<◌, ◌≤◌, ◌⊎◌, inl, inr, Bool, true, false, cond, eqb, ltb, List, [], length, count_by, All, IsPermutation, IsSorted, Ordering, Less, sym, ◌∙◌, ap, subst, arith, eqb-true, lt-ltb, one-mul, slice_index, nat_lt, ◌==◌, ◌&&◌}
use Rattle.std.proofs.lemmas.Bool.{cases_eq, cases_lt, cond-true, ne_eqb, and_parts, and_from, eq-eqb, false_from_ne_true}
use Rattle.std.proofs.lemmas.Bool.Decides.{nat_tests}
use Rattle.std.proofs.lemmas.Nat.{same_from_place}
use Rattle.std.proofs.lemmas.List.{get_or_past}
use Rattle.std.proofs.lemmas.List.Elements.{recursion_from_All}
use Rattle.std.proofs.lemmas.List.Filters.{All-dedup}
use Rattle.std.proofs.lemmas.List.Kept.{Contains-dedup, IsStrictlySortedBy-dedup}
use Rattle.std.proofs.lemmas.List.Sorted.{list_any-IsPermutation, All-permutation}
use Rattle.std.proofs.lemmas.List.Sums.{count_by-le-length}
use Rattle.exam_lists.proofs.Chains.{IsChain, chain_weaker}
use Rattle.exam_lists.proofs.Counts.{count_by_any}
use Rattle.exam_lists.proofs.Each.{each_weaker}
use Rattle.exam_lists.proofs.Sums.{sum_by-agree, sum_by-once}
use Rattle.exam_lists.proofs.Booleans.{cond_and_swap}
use Rattle.exam_lists.proofs.Sorted.{chain_from_sorted}
use Rattle.exam_lists.proofs.Tests.{any_dedup}
use Rattle.exam_model.specs.Instance.{Session}
use Rattle.exam_model.specs.Sums.{sum_below}
use Rattle.exam_model.specs.Timetable.{Placing}
use Rattle.exam_model.proofs.SumLemmas.{sum_below-same, sum_below-within, sum_below-turned, sum_below-at}
use Rattle.exam_score.specs.MixedDurations.{duration_count, exams_with_duration, durations, room_mixed}
use Rattle.exam_score.specs.Stays.{is_stay, StayExists, AreStays}
use Rattle.exam_score.specs.declared.mixed.PlacedDuration.{PlacedDuration}
use Rattle.exam_publish.specs.Durations.{is_in_slot, AreDurations}
use Rattle.exam_publish.specs.Tallies.{AreTallied}
use Rattle.exam_model.proofs.PlaceLemmas.{slot_within}

-- ---- the order of the stays

abbrev pub stay_cmp : PlacedDuration → PlacedDuration → Ordering
stay_cmp x y =
    ordering_then (nat_cmp x.period y.period)
    (ordering_then (nat_cmp x.room y.room) (nat_cmp x.minutes y.minutes))

stay_cmp_total : IsTotalOrder stay_cmp
stay_cmp_total =
    then_total (on_total (λ (x : PlacedDuration). x.period) nat_cmp_total)
    (then_total (on_total (λ (x : PlacedDuration). x.room) nat_cmp_total)
    (on_total (λ (x : PlacedDuration). x.minutes) nat_cmp_total))

-- the value of `==` for two stays
abbrev pub stay_eq : PlacedDuration → PlacedDuration → Bool
stay_eq a b = eqb a.period b.period && (eqb a.room b.room && eqb a.minutes b.minutes)

ties : (a b : PlacedDuration) → stay_eq a b ≡ eq_by_cmp stay_cmp a b
ties a b = grind (arith, nat_tests)

same_stay : (a b : PlacedDuration) → stay_eq a b ≡ true → a ≡ b
same_stay a b h = grind (arith, common_steps, and_parts, eqb-true)

equivalence : IsEquivalence stay_eq
equivalence = grind (arith, common_steps, same_stay, nat_tests)

-- a later stay is another one
other_stay : (p r m : ℕ) (x y : PlacedDuration) → stay_cmp x y ≡ Less → is_stay p r m x ≡ true
    → is_stay p r m y ≡ false
other_stay p r m x y less here = grind (arith, nat_tests, less, here)

-- stays without repeats, one for each stay that some exam has
pub record AreKinds (I : Session) (T : Placing) (kinds : List PlacedDuration) : Type 0 where
  pub members : (p r m : ℕ) → list_any (is_stay p r m) kinds ≡ nat_lt 0 (exams_with_duration I T p r m)
  pub once : IsChain (λ x y. stay_cmp x y ≡ Less) kinds
  pub exist : All (StayExists I) kinds

pub are_kinds : (I : Session) (T : Placing) (stays sorted kinds : List PlacedDuration) → AreStays I T stays
    → IsPermutation stays sorted → IsSorted stay_cmp sorted → kinds ≡ dedup stay_eq sorted
    → AreKinds I T kinds
are_kinds I T stays sorted kinds are moved up is = subst (AreKinds I T) (sym is) (record {
  members = λ p r m.
      any_dedup stay_eq (Contains-dedup {E = stay_eq} equivalence same_stay) (is_stay p r m) sorted
      ∙ sym (list_any-IsPermutation (is_stay p r m) stays sorted moved)
      ∙ sym (count_by_any (is_stay p r m) stays) ∙ ap (λ n. nat_lt 0 n) (are.counts p r m);
  once = chain_from_sorted stay_cmp (dedup stay_eq sorted)
      (IsStrictlySortedBy-dedup stay_cmp_total {E = stay_eq} ties sorted up);
  exist = All-dedup stay_eq (StayExists I) sorted
      (All-permutation (StayExists I) stays sorted moved are.exist);
})

-- ---- the durations of one place

short : (I : Session) (x : PlacedDuration) → StayExists I x → x.minutes < duration_count
unfolding duration_count
short I x e = let h = e.minutes in omega arith

here : ℕ → ℕ → PlacedDuration → Bool
here p r x = (x.period == p) && (x.room == r)

one_stay : (I : Session) (p r : ℕ) (x : PlacedDuration) → StayExists I x
    → sum_below duration_count (λ m. cond (is_stay p r m x) 1 0) ≡ cond (here p r x) 1 0
unfolding here
one_stay I p r x e =
    sum_below-same _ _
    (λ m. cond_and_swap ((x.period == p) && (x.room == r)) (x.minutes == m)) duration_count
    ∙ sum_below-at (λ m. cond ((x.period == p) && (x.room == r)) 1 0) x.minutes duration_count
    ∙ cond-true (ltb x.minutes duration_count) (cond ((x.period == p) && (x.room == r)) 1 0) 0
    (lt-ltb x.minutes duration_count (short I x e))

durations_are : (I : Session) (T : Placing) (kinds : List PlacedDuration) (p r : ℕ) → AreKinds I T kinds
    → count_by (here p r) kinds ≡ durations I T p r
durations_are I T kinds p r are =
    sym (sum_below-same _ _ (λ m. ap (λ b. cond b 1 0) (sym (are.members p r m))
    ∙ sum_by-once (is_stay p r m) 1 kinds
    (chain_weaker (λ x y. stay_cmp x y ≡ Less)
    (λ x y. is_stay p r m x ≡ true → is_stay p r m y ≡ false)
    (other_stay p r m) kinds are.once))
    duration_count
    ∙ sum_below-turned (λ m x. cond (is_stay p r m x) 1 0) duration_count kinds
    ∙ sum_by-agree (λ x. sum_below duration_count (λ m. cond (is_stay p r m x) 1 0))
    (λ x. cond (here p r x) 1 0) kinds
    (each_weaker (StayExists I)
    (λ x. sum_below duration_count (λ m. cond (is_stay p r m x) 1 0) ≡ cond (here p r x) 1 0)
    (one_stay I p r) kinds (recursion_from_All (StayExists I) kinds are.exist)))

same_slot : (I : Session) (p r : ℕ) → r < length I.rooms → (x : PlacedDuration) → StayExists I x
    → ◌≡◌ {A = ℕ} (cond (is_in_slot I (p * length I.rooms + r) x) 1 0) (cond (here p r x) 1 0)
unfolding here
same_slot I p r hr x e =
    ap (λ b. cond b 1 0)
    (go (cases_eq (x.period * length I.rooms + x.room) (p * length I.rooms + r)))
  where
    go : (x.period * length I.rooms + x.room ≡ p * length I.rooms + r)
        ⊎ (x.period * length I.rooms + x.room ≡ p * length I.rooms + r → ⊥)
        → eqb (x.period * length I.rooms + x.room) (p * length I.rooms + r)
        ≡ ((x.period == p) && (x.room == r))
    go (inl same) =
        let parts = same_from_place x.period x.room p r (length I.rooms) e.room hr same in
        eq-eqb (x.period * length I.rooms + x.room) (p * length I.rooms + r) same
        ∙ sym (and_from (eqb x.period p) (eqb x.room r) (eq-eqb x.period p parts.0)
        (eq-eqb x.room r parts.1))
    go (inr other) = grind (arith, common_steps, ne_eqb, false_from_ne_true, and_parts, eqb-true)

pub are_durations : (I : Session) (T : Placing) (kinds : List PlacedDuration) (counts : List ℕ)
    → AreKinds I T kinds → length kinds ≤ 2000
    → AreTallied (λ k. 1) (is_in_slot I) (length I.periods * length I.rooms) kinds counts
    → AreDurations I T counts
are_durations I T kinds counts are few tallied = record {
  count = tallied.count;
  each = λ p r hp hr.
      let within =
      slot_within (length I.periods) (length I.rooms) (record { period = p; room = r }) hp hr in
      tallied.each (p * length I.rooms + r) within
      ∙ one-mul (count_by (is_in_slot I (p * length I.rooms + r)) kinds)
      ∙ sum_by-agree (λ x. cond (is_in_slot I (p * length I.rooms + r) x) 1 0)
      (λ x. cond (here p r x) 1 0) kinds
      (each_weaker (StayExists I)
      (λ x. ◌≡◌ {A = ℕ} (cond (is_in_slot I (p * length I.rooms + r) x) 1 0)
      (cond (here p r x) 1 0))
      (same_slot I p r hr) kinds (recursion_from_All (StayExists I) kinds are.exist))
      ∙ durations_are I T kinds p r are;
  small = λ k.
      elim (cases_lt k (length I.periods * length I.rooms)) as (λ _. slice_index counts k ≤ 2000) [
        | inl within ↦ (let is = tallied.each k within in
            let le = count_by-le-length (is_in_slot I k) kinds in omega arith)
        | inr past ↦
            (let is = get_or_past counts k 0 (let l = tallied.count in omega arith) in omega arith)
      ];
}

-- a room's mixed durations by the table
pub mixed_is : (I : Session) (T : Placing) (counts : List ℕ) (r : ℕ) → AreDurations I T counts
    → r < length I.rooms
    → sum_below (length I.periods)
    (λ p. (slice_index counts (p * length I.rooms + r) - 1) * I.weights.mixed)
    ≡ room_mixed I T r
mixed_is I T counts r are hr = grind (arith, common_steps, sum_below-within)
