-- The durations of a room and period, counted along stays in order.
use Rattle.std.proofs.lemmas.Grind.{common_steps}
use Rattle.std.specs.List.{AllByRecursion}
use Rattle.std.specs.Ordering.{is_lt, nat_cmp, ordering_then}
use Rattle.std.specs.Cmp.{then_total, on_total, nat_cmp_total, IsTotalOrder}
use Rattle.std.specs.Prelude.{◌==◌, ◌&&◌, nat_lt, slice_get}
use Rattle.std.proofs.Common.{◌≡◌, ◌≢◌, ℕ, zero, suc, ◌+◌, ◌-◌, ◌*◌, ◌<◌, ◌≤◌, inl, inr, Bool, true, false, cond, eqb, ltb, List, [], ◌∷◌, ◌++◌, length, get_or, Some, None, count_by, AllPairs, IsPermutation, IsSorted, Ordering, refl, sym, ◌∙◌, ap, ap₂, arith, add-zero, zero-add, lt-ltb, rules}
use Rattle.std.proofs.lemmas.Bool.{cond-true, cases_eq, cases_lt, eq-eqb, ne_eqb}
use Rattle.std.proofs.lemmas.Bool.Decides.{nat_tests}
use Rattle.std.proofs.lemmas.List.Elements.{recursion_from_All}
use Rattle.std.proofs.lemmas.List.Sums.{sum_by-cons, sum_by_push}
use Rattle.std.proofs.lemmas.Option.{get_or_from_slice_get}
use Rattle.std.proofs.lemmas.List.Sorted.{sorted_far, ranks_by, sum_by-IsPermutation, All-permutation}
use Rattle.exam_lists.proofs.Booleans.{cond_same, and_false_middle}
use Rattle.exam_lists.proofs.Chains.{IsChain, chain_from_index}
use Rattle.exam_lists.proofs.Each.{each_weaker}
use Rattle.exam_lists.proofs.Sums.{sum_by-none}
use Rattle.exam_model.specs.Instance.{Session, IsInstance}
use Rattle.exam_model.specs.Timetable.{Placing, place_of}
use Rattle.exam_model.specs.Fits.{Suits}
use Rattle.exam_model.specs.Sums.{sum_below, count_below}
use Rattle.exam_model.specs.declared.parts.Exam.{Exam}
use Rattle.exam_terms.specs.declared.place.Place.{Place}
use Rattle.exam_model.proofs.SumLemmas.{sum_below-same, sum_below-zeros, sum_below-add, sum_below-times, sum_below-at, sum_below_more}
use Rattle.exam_score.specs.MixedDurations.{duration_count, has_duration, exams_with_duration, mixed_part}
use Rattle.exam_score.specs.Stays.{is_stay, StayExists, AreStays, NotAfter, next_differs, further_durations}
use Rattle.exam_score.specs.declared.mixed.PlacedDuration.{PlacedDuration}

-- ---- one more exam

pub counts_more_some : (I : Session) (T : Placing) (e : ℕ) (stays : List PlacedDuration)
    (at : Place) (x : Exam)
    → place_of T e ≡ Some at → slice_get I.exams e ≡ Some x
    → ((p r m : ℕ) → count_by (is_stay p r m) stays ≡ count_below e (has_duration I T p r m))
    → (p r m : ℕ)
    → count_by (is_stay p r m)
    (stays ++ record { period = at.period; room = at.room; minutes = x.minutes } ∷ [])
    ≡ count_below (e + 1) (has_duration I T p r m)
counts_more_some I T e stays at x placed is known p r m = grind (arith, sum_below_more, sum_by_push)

pub counts_more_none : (I : Session) (T : Placing) (e : ℕ) (stays : List PlacedDuration)
    → place_of T e ≡ None
    → ((p r m : ℕ) → count_by (is_stay p r m) stays ≡ count_below e (has_duration I T p r m))
    → (p r m : ℕ) → count_by (is_stay p r m) stays ≡ count_below (e + 1) (has_duration I T p r m)
counts_more_none I T e stays unplaced known p r m = grind (arith, add-zero, sum_below_more)

-- ---- durations by the stays

-- how many different durations the stays at a place have
abbrev pub stay_durations : List PlacedDuration → ℕ → ℕ → ℕ
stay_durations xs p r = count_below duration_count (λ m. nat_lt 0 (count_by (is_stay p r m) xs))

-- 1 if there is none yet, else 0
abbrev fresh : ℕ → ℕ
fresh n = cond (nat_lt 0 n) 0 1

one_term : (b : Bool) (n : ℕ)
    → ◌≡◌ {A = ℕ} (cond (nat_lt 0 (cond b 1 0 + n)) 1 0)
    (cond (nat_lt 0 n) 1 0 + cond b (fresh n) 0)
one_term true n = grind (arith, nat_tests)
one_term false n = ap (λ k. cond (nat_lt 0 k) 1 0) (zero-add n) ∙ sym (add-zero _)

-- the number of durations with one more that lasts k
one_more : (h : ℕ → ℕ) (k n : ℕ) → k < n → count_below n (λ m. nat_lt 0 (cond (eqb k m) 1 0 + h m))
    ≡ count_below n (λ m. nat_lt 0 (h m)) + fresh (h k)
one_more h k n lt =
    sum_below-same _ _ (λ m. one_term (eqb k m) (h m)) n
    ∙ sum_below-add (λ m. cond (nat_lt 0 (h m)) 1 0) (λ m. cond (eqb k m) (fresh (h m)) 0) n
    ∙ ap (λ j. count_below n (λ m. nat_lt 0 (h m)) + j)
    (sum_below-at (λ m. fresh (h m)) k n ∙ cond-true (ltb k n) (fresh (h k)) 0 (lt-ltb k n lt))

-- the number of durations but one, after one more
less_one : (d n : ℕ) → (d + fresh n) - 1 ≡ (d - 1) + cond (nat_lt 0 d) (fresh n) 0
less_one d n = grind (arith, nat_tests)

-- one more stay at one place
place_more : (x : PlacedDuration) (xs : List PlacedDuration) (b : Bool) (p r n : ℕ) → x.minutes < n
    → ((x.period == p) && (x.room == r)) ≡ b
    → count_below n (λ m. nat_lt 0 (count_by (is_stay p r m) (x ∷ xs))) - 1
    ≡ (count_below n (λ m. nat_lt 0 (count_by (is_stay p r m) xs)) - 1)
    + cond b (cond (nat_lt 0 (count_below n (λ m. nat_lt 0 (count_by (is_stay p r m) xs))))
    (fresh (count_by (is_stay p r x.minutes) xs)) 0) 0
place_more x xs b p r n lt is =
    ap (λ k. k - 1) (sum_below-same _ _ (λ m. ap (λ k. cond (nat_lt 0 k) 1 0)
    (sum_by-cons (λ y. cond (is_stay p r m y) 1 0) x xs
    ∙ ap (λ c. cond (c && (x.minutes == m)) 1 0 + count_by (is_stay p r m) xs) is))
    n)
    ∙ both b
  where
    both : (b : Bool)
        → count_below n
        (λ m. nat_lt 0 (cond (b && (x.minutes == m)) 1 0 + count_by (is_stay p r m) xs)) - 1
        ≡ (count_below n (λ m. nat_lt 0 (count_by (is_stay p r m) xs)) - 1)
        + cond b (cond (nat_lt 0 (count_below n (λ m. nat_lt 0 (count_by (is_stay p r m) xs))))
        (fresh (count_by (is_stay p r x.minutes) xs)) 0) 0
    both true = ap (λ k. k - 1) (one_more (λ m. count_by (is_stay p r m) xs) x.minutes n lt)
        ∙ less_one (count_below n (λ m. nat_lt 0 (count_by (is_stay p r m) xs)))
        (count_by (is_stay p r x.minutes) xs)
    both false = grind (arith, add-zero, sum_below-same, zero-add)

-- a sum over all places whose terms differ from 0 only at one place
one_place : (u : ℕ → ℕ → ℕ) (a b periods rooms : ℕ) → a < periods → b < rooms
    → sum_below rooms (λ r. sum_below periods (λ p. cond ((a == p) && (b == r)) (u p r) 0)) ≡ u a b
one_place u a b periods rooms ha hb =
    sum_below-same _ _ (λ r. sum_below-same _ _ (λ p. turned (a == p) (b == r) (u p r)) periods
    ∙ sum_below-at (λ p. cond (b == r) (u p r) 0) a periods
    ∙ cond-true (ltb a periods) _ 0 (lt-ltb a periods ha)) rooms
    ∙ sum_below-at (λ r. u a r) b rooms ∙ cond-true (ltb b rooms) _ 0 (lt-ltb b rooms hb)
  where
    turned : (c d : Bool) (n : ℕ) → cond (c && d) n 0 ≡ cond c (cond d n 0) 0
    turned true d n = refl
    turned false d n = refl

abbrev pub all_but_one : List PlacedDuration → ℕ → ℕ → ℕ
all_but_one xs periods rooms =
    sum_below rooms (λ r. sum_below periods (λ p. stay_durations xs p r - 1))

more_stays : (x : PlacedDuration) (xs : List PlacedDuration) (periods rooms : ℕ) → x.period < periods → x.room < rooms
    → x.minutes < duration_count
    → all_but_one (x ∷ xs) periods rooms
    ≡ all_but_one xs periods rooms + cond (nat_lt 0 (stay_durations xs x.period x.room))
    (fresh (count_by (is_stay x.period x.room x.minutes) xs)) 0
more_stays x xs periods rooms hp hr hm =
    let u : ℕ → ℕ → ℕ =
    λ p r. cond (nat_lt 0 (stay_durations xs p r))
    (fresh (count_by (is_stay p r x.minutes) xs)) 0 in
    sum_below-same _ _
    (λ r. sum_below-same _ _
    (λ p. place_more x xs ((x.period == p) && (x.room == r)) p r duration_count hm refl) periods
    ∙ sum_below-add (λ p. stay_durations xs p r - 1)
    (λ p. cond ((x.period == p) && (x.room == r)) (u p r) 0) periods) rooms
    ∙ sum_below-add (λ r. sum_below periods (λ p. stay_durations xs p r - 1))
    (λ r. sum_below periods (λ p. cond ((x.period == p) && (x.room == r)) (u p r) 0)) rooms
    ∙ ap (λ k. all_but_one xs periods rooms + k) (one_place u x.period x.room periods rooms hp hr)

-- ---- the next stay

-- a stay at another place, or of another duration
elsewhere : (p r m : ℕ) (z : PlacedDuration) → (z.period ≡ p → z.room ≡ r → ⊥) → is_stay p r m z ≡ false
elsewhere p r m z other = elim (cases_eq z.period p) as (λ _. is_stay p r m z ≡ false) [
  | inl here ↦ elim (cases_eq z.room r) as (λ _. is_stay p r m z ≡ false) [
    | inl there ↦ absurd (other here there)
    | inr there ↦ ap (λ b. ((z.period == p) && b) && (z.minutes == m)) (ne_eqb z.room r there)
        ∙ and_false_middle (z.period == p) (z.minutes == m)
  ]
  | inr here ↦ ap (λ b. (b && (z.room == r)) && (z.minutes == m)) (ne_eqb z.period p here)
]

not_so_long : (p r m : ℕ) (z : PlacedDuration) → (z.period ≡ p → z.room ≡ r → z.minutes ≡ m → ⊥)
    → is_stay p r m z ≡ false
not_so_long p r m z other = elim (cases_eq z.minutes m) as (λ _. is_stay p r m z ≡ false) [
  | inl long ↦ elsewhere p r m z (λ a b. other a b long)
  | inr long ↦ ap (λ b. ((z.period == p) && (z.room == r)) && b) (ne_eqb z.minutes m long)
      ∙ and-last ((z.period == p) && (z.room == r))
]
  where
    and-last : (c : Bool) → (c && false) ≡ false
    and-last true = refl
    and-last false = refl

right_there : (p r m : ℕ) (z : PlacedDuration) → z.period ≡ p → z.room ≡ r → z.minutes ≡ m
    → is_stay p r m z ≡ true
right_there p r m z a b c =
    λ i. ((eq-eqb z.period p a i) && (eq-eqb z.room r b i)) && (eq-eqb z.minutes m c i)

none_of : (p r m : ℕ) (xs : List PlacedDuration) → AllByRecursion (λ z. is_stay p r m z ≡ false) xs
    → count_by (is_stay p r m) xs ≡ 0
none_of p r m xs h = grind (arith, each_weaker, sum_by-none)

nothing_there : (p r : ℕ) (xs : List PlacedDuration) → ((m : ℕ) → count_by (is_stay p r m) xs ≡ 0)
    → stay_durations xs p r ≡ 0
nothing_there p r xs h =
    sum_below-same _ _ (λ m. ap (λ k. cond (nat_lt 0 k) 1 0) (h m)) duration_count
    ∙ sum_below-zeros duration_count

at_least : (f : ℕ → ℕ) (k n : ℕ) → k < n → f k ≤ sum_below n f
at_least f k zero lt = absurd (omega arith)
at_least f k (suc n) lt = elim (cases_lt k n) as (λ _. f k ≤ sum_below n f + f n) [
  | inl below ↦ (let h = at_least f k n below in omega arith)
  | inr last ↦ (let same : k ≡ n = omega arith in let h : f k ≡ f n = ap f same in omega arith)
]

-- three stays in order: if the first and the third have the same place, so has the second
back_place : (x y z : PlacedDuration) → NotAfter x y → NotAfter y z → z.period ≡ x.period → z.room ≡ x.room
    → (y.period ≡ x.period) × (y.room ≡ x.room)
back_place x y z xy yz zp zr = grind (arith)

back_minutes : (x y z : PlacedDuration) → NotAfter x y → NotAfter y z → z.period ≡ x.period → z.room ≡ x.room
    → z.minutes ≡ x.minutes → y.minutes ≡ x.minutes
back_minutes x y z xy yz zp zr zm = grind (arith, back_place)

-- the next stay has another place: then so have all later ones
next_elsewhere : (x y : PlacedDuration) (ys : List PlacedDuration) → NotAfter x y → AllByRecursion (NotAfter y) ys
    → (y.period ≡ x.period → y.room ≡ x.room → ⊥)
    → cond (nat_lt 0 (stay_durations (y ∷ ys) x.period x.room))
    (fresh (count_by (is_stay x.period x.room x.minutes) (y ∷ ys))) 0 ≡ 0
next_elsewhere x y ys xy later other =
    ap (λ k. cond (nat_lt 0 k) (fresh (count_by (is_stay x.period x.room x.minutes) (y ∷ ys))) 0)
    (nothing_there x.period x.room (y ∷ ys) (λ m. none_of x.period x.room m (y ∷ ys) (
      elsewhere x.period x.room m y other,
      each_weaker (NotAfter y) (λ z. is_stay x.period x.room m z ≡ false)
          (λ z yz. elsewhere x.period x.room m z
          (λ zp zr. let back = back_place x y z xy yz zp zr in other back.0 back.1))
          ys later,
    )))

-- the next stay has the same place and duration: then there is no further duration
next_same : (x y : PlacedDuration) (ys : List PlacedDuration) → y.period ≡ x.period → y.room ≡ x.room
    → y.minutes ≡ x.minutes
    → cond (nat_lt 0 (stay_durations (y ∷ ys) x.period x.room))
    (fresh (count_by (is_stay x.period x.room x.minutes) (y ∷ ys))) 0 ≡ 0
next_same x y ys a b c = grind (arith, common_steps, cond_same, lt-ltb, right_there, sum_by-cons)

-- the next stay has the same place and another duration: then it is a further one
next_further : (x y : PlacedDuration) (ys : List PlacedDuration) → NotAfter x y → AllByRecursion (NotAfter y) ys
    → y.minutes < duration_count → y.period ≡ x.period → y.room ≡ x.room → y.minutes ≢ x.minutes
    → cond (nat_lt 0 (stay_durations (y ∷ ys) x.period x.room))
    (fresh (count_by (is_stay x.period x.room x.minutes) (y ∷ ys))) 0 ≡ 1
next_further x y ys xy later exists a b other =
    let counted = sum_by-cons (λ z. cond (is_stay x.period x.room y.minutes z) 1 0) y ys in
    let here : ◌≡◌ {A = ℕ} (cond (is_stay x.period x.room y.minutes y) 1 0) 1 =
    ap (λ b. cond b 1 0) (right_there x.period x.room y.minutes y a b refl) in
    let some : 0 < count_by (is_stay x.period x.room y.minutes) (y ∷ ys) = omega arith in
    let term : ◌≡◌ {A = ℕ}
    (cond (nat_lt 0 (count_by (is_stay x.period x.room y.minutes) (y ∷ ys))) 1 0) 1 =
    ap (λ b. cond b 1 0) (lt-ltb 0 _ some) in
    let least = at_least (λ m. cond (nat_lt 0 (count_by (is_stay x.period x.room m) (y ∷ ys))) 1 0)
    y.minutes duration_count exists in
    let used : 0 < stay_durations (y ∷ ys) x.period x.room = omega arith in
    let absent : count_by (is_stay x.period x.room x.minutes) (y ∷ ys) ≡ 0
    = none_of x.period x.room x.minutes (y ∷ ys) (
      not_so_long x.period x.room x.minutes y (λ _ _ m. other m),
      each_weaker (NotAfter y) (λ z. is_stay x.period x.room x.minutes z ≡ false)
          (λ z yz. not_so_long x.period x.room x.minutes z
          (λ zp zr zm. other (back_minutes x y z xy yz zp zr zm)))
          ys later,
    ) in
    ap₂ (λ b n. cond b (fresh n) 0) (lt-ltb 0 _ used) absent

next_is : (x : PlacedDuration) (xs : List PlacedDuration) → AllByRecursion (NotAfter x) xs → IsChain NotAfter xs
    → AllByRecursion (λ z. z.minutes < duration_count) xs
    → cond (nat_lt 0 (stay_durations xs x.period x.room))
    (fresh (count_by (is_stay x.period x.room x.minutes) xs)) 0
    ≡ next_differs x xs
next_is x [] after chain short = ap (λ k. cond (nat_lt 0 k) 1 0) (sum_below-zeros duration_count)
next_is x (y ∷ ys) after chain short =
    grind (arith, cases_eq, eq-eqb, ne_eqb, next_elsewhere, next_further, next_same)

-- ---- along the whole list

short : (I : Session) (z : PlacedDuration) → StayExists I z → z.minutes < duration_count
unfolding duration_count
short I z e = let h = e.minutes in omega arith

pub further_is : (I : Session) (xs : List PlacedDuration) → IsChain NotAfter xs
    → AllByRecursion (StayExists I) xs
    → all_but_one xs (length I.periods) (length I.rooms) ≡ further_durations xs
further_is I [] chain exist = search (rules, sum_below-same, sum_below-zeros)
further_is I (x ∷ xs) chain exist =
    let here = exist.0 in
    let more = more_stays x xs (length I.periods) (length I.rooms) here.period here.room
    (short I x here) in
    let next = next_is x xs chain.0 chain.1
    (each_weaker (StayExists I) (λ z. z.minutes < duration_count) (short I) xs exist.1) in
    let others = further_is I xs chain.1 exist.1 in
    omega arith

-- ---- the order of the stays

abbrev pub stay_cmp : PlacedDuration → PlacedDuration → Ordering
stay_cmp x y =
    ordering_then (nat_cmp x.period y.period)
    (ordering_then (nat_cmp x.room y.room) (nat_cmp x.minutes y.minutes))

stay_cmp_total : IsTotalOrder stay_cmp
stay_cmp_total =
    then_total (on_total (λ (x : PlacedDuration). x.period) nat_cmp_total)
    (then_total (on_total (λ (x : PlacedDuration). x.room) nat_cmp_total)
    (on_total (λ (x : PlacedDuration). x.minutes) nat_cmp_total))

not_less : (x y : PlacedDuration) → is_lt (stay_cmp y x) ≡ false → NotAfter x y
not_less x y h = record {
  periods = elim (cases_lt y.period x.period) as (λ _. x.period ≤ y.period)
      [ inl less ↦ absurd (first x y h less) | inr more ↦ more ];
  rooms = λ p. elim (cases_lt y.room x.room) as (λ _. x.room ≤ y.room)
      [ inl less ↦ absurd (second x y h (sym p) less) | inr more ↦ more ];
  minutes = λ p r. elim (cases_lt y.minutes x.minutes) as (λ _. x.minutes ≤ y.minutes)
      [ inl less ↦ absurd (third x y h (sym p) (sym r) less) | inr more ↦ more ];
}
  where
    first : (x y : PlacedDuration) → is_lt (stay_cmp y x) ≡ false → y.period < x.period → ⊥
    first x y h less = grind (arith, nat_tests)

    second : (x y : PlacedDuration) → is_lt (stay_cmp y x) ≡ false → y.period ≡ x.period → y.room < x.room → ⊥
    second x y h p less = grind (arith, nat_tests)

    third : (x y : PlacedDuration) → is_lt (stay_cmp y x) ≡ false → y.period ≡ x.period → y.room ≡ x.room
        → y.minutes < x.minutes → ⊥
    third x y h p r less = grind (arith, nat_tests)

in_order : (xs : List PlacedDuration) → IsSorted stay_cmp xs → AllPairs NotAfter xs
in_order xs h i j d l m =
    not_less (get_or xs i d) (get_or xs j d)
    (sorted_far (λ x y. is_lt (stay_cmp x y)) (ranks_by stay_cmp_total (λ x. x)) xs h i j d
    (omega arith) m)

-- the part of the penalty along stays in order
pub mixed_is : (I : Session) (T : Placing) (stays sorted : List PlacedDuration) → AreStays I T stays
    → IsPermutation stays sorted → IsSorted stay_cmp sorted
    → further_durations sorted * I.weights.mixed ≡ mixed_part I T
mixed_is I T stays sorted are moved order =
    let w = I.weights.mixed in
    let whole = further_is I sorted (chain_from_index NotAfter sorted (in_order sorted order))
    (recursion_from_All (StayExists I) sorted
    (All-permutation (StayExists I) stays sorted moved are.exist)) in
    let counts : (p r m : ℕ) → count_by (is_stay p r m) sorted ≡ exams_with_duration I T p r m =
    grind (arith, common_steps, sum_by-IsPermutation) in
    ap (λ n. n * w) (sym whole)
    ∙ sym (sum_below-times (λ r. sum_below (length I.periods) (λ p. stay_durations sorted p r - 1))
    w (length I.rooms))
    ∙ sum_below-same _ _
    (λ r. sym (sum_below-times (λ p. stay_durations sorted p r - 1) w (length I.periods))
    ∙ sum_below-same _ _
    (λ p i. (count_below duration_count (λ m. nat_lt 0 (counts p r m i)) - 1) * w)
    (length I.periods))
    (length I.rooms)

-- the place and the duration of a placed exam's stay exist
pub stay_exists : (I : Session) (T : Placing) (e : ℕ) (at : Place) (x : Exam) → IsInstance I
    → Suits I T → e < length T → place_of T e ≡ Some at → slice_get I.exams e ≡ Some x
    → StayExists I (record { period = at.period; room = at.room; minutes = x.minutes })
stay_exists I T e at x known fits within placed is = grind (arith, get_or_from_slice_get)
