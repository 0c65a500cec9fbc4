-- The enrolments of an edit's students, in order, folded one by one.
use Rattle.std.proofs.lemmas.Grind.{common_steps}
use Rattle.std.specs.List.{AllByRecursion}
use Rattle.std.specs.Ordering.{is_lt, nat_cmp, ordering_then}
use Rattle.std.specs.Cmp.{IsTotalOrder}
use Rattle.std.proofs.Common.{◌≡◌, ℕ, ◌+◌, ◌<◌, ◌≤◌, inl, inr, Bool, true, false, cond, ◌&&◌, List, [], ◌∷◌, ◌++◌, length, take, map, get_or, count_by, AllPairs, Option, Some, IsPermutation, IsSorted, Ordering, refl, sym, ◌∙◌, ap, ap₂, subst, arith, eq-eqb, eqb-true, length-take, rules}
use Rattle.std.proofs.lemmas.Bool.{cases_lt, and_parts}
use Rattle.std.proofs.lemmas.Bool.Decides.{nat_tests}
use Rattle.std.proofs.lemmas.List.{get_or-take, get_or_default, length-map, take_more, map_push}
use Rattle.std.proofs.lemmas.List.Elements.{All-from_recursion, recursion_from_All}
use Rattle.std.proofs.lemmas.List.Sums.{sum_by-cons}
use Rattle.std.proofs.lemmas.List.Sorted.{sorted_far, ranks_by, sum_by-IsPermutation, length_permutation}
use Rattle.exam_model.specs.Enrolments.{Enrolled, AreEnrolments}
use Rattle.exam_model.specs.Pairs.{Pair, ComesBefore, pairs_of}
use Rattle.exam_model.specs.Sitters.{is_sitter, pair_of}
use Rattle.exam_model.specs.declared.sitter.Sitter.{Sitter}
use Rattle.exam_model.proofs.ConflictLemmas.{each_mapped}
use Rattle.exam_model.proofs.PairLemmas.{are_pairs}
use Rattle.exam_score.specs.Concerned.{IsSooner}
use Rattle.exam_model.specs.Fits.{Fits}
use Rattle.exam_model.specs.Instance.{Session}
use Rattle.exam_model.specs.Timetable.{Placing}
use Rattle.exam_score.specs.Changes.{DiffersAtMost}
use Rattle.exam_score.specs.Exchanges.{IsOfEdit, pairs_concerned, sits_among}
use Rattle.exam_score.specs.Front.{AreSizes}
use Rattle.exam_score.specs.Penalty.{Penalty}
use Rattle.exam_score.specs.Track.{track}
use Rattle.std.specs.Prelude.{IsSome, unwrap_or}
use Rattle.exam_lists.proofs.Chains.{IsChain, chain_from_index, chain_filter, index_from_chain}
use Rattle.exam_lists.proofs.Each.{each_weaker, each_append_right}
use Rattle.exam_lists.proofs.Sums.{sum_by-none}
use Rattle.exam_lists.proofs.Filters.{length_filter-le}
use Rattle.exam_score.specs.Folds.{CanFollow, ComesEarlier, Folded, IsFoldOf, RepresentsPairs}

-- ---- none twice

other_sitter : (s e : ℕ) (x y : Sitter) → ComesBefore (pair_of x) (pair_of y)
    → is_sitter s e x ≡ true → is_sitter s e y ≡ false
other_sitter s e x y before is = grind (arith, and_parts, eqb-true)

-- pairs in order have no repeats
once : (s e : ℕ) (xs : List Sitter) → IsChain (λ x y. ComesBefore (pair_of x) (pair_of y)) xs
    → count_by (is_sitter s e) xs ≤ 1
once s e [] h = omega arith
once s e (x ∷ xs) h = go (is_sitter s e x) refl (once s e xs h.1)
  where
    go : (b : Bool) → is_sitter s e x ≡ b → count_by (is_sitter s e) xs ≤ 1
        → count_by (is_sitter s e) (x ∷ xs) ≤ 1
    go true is more =
        grind (arith, common_steps, each_weaker, other_sitter, sum_by-cons, sum_by-none)
    go false is more = grind (arith, sum_by-cons)

each_of_mapped : (P : Pair → Type 0) (xs : List Sitter) → AllByRecursion (λ x. P (pair_of x)) xs
    → AllByRecursion P (map pair_of xs)
each_of_mapped P [] h = tt
each_of_mapped P (x ∷ xs) h = (h.0, each_of_mapped P xs h.1)

chain_mapped : (xs : List Sitter) → IsChain ComesBefore (map pair_of xs)
    → IsChain (λ x y. ComesBefore (pair_of x) (pair_of y)) xs
chain_mapped [] h = tt
chain_mapped (x ∷ xs) h = (each_mapped pair_of (ComesBefore (pair_of x)) xs h.0, chain_mapped xs h.1)

-- ---- in order

abbrev pub sitter_cmp : Sitter → Sitter → Ordering
sitter_cmp x y = ordering_then (nat_cmp x.student y.student) (nat_cmp x.exam y.exam)

sitter_cmp_total : IsTotalOrder sitter_cmp
sitter_cmp_total = search (rules)

sooner : (x y : Sitter) → is_lt (sitter_cmp y x) ≡ false
    → is_sitter x.student x.exam y ≡ false → IsSooner x y
sooner x y h other = elim (cases_lt x.student y.student) as (λ _. IsSooner x y) [
  | inl less ↦ inl less
  | inr more ↦
      (let same : x.student ≡ y.student = elim (cases_lt y.student x.student)
      as (λ _. x.student ≡ y.student)
      [ inl less ↦ absurd (first x y h less) | inr not_more ↦ omega (arith, more, not_more) ] in
      inr (same, elim (cases_lt x.exam y.exam) as (λ _. x.exam < y.exam) [ inl less ↦ less | inr not_less ↦ absurd (second x y h other (sym same) not_less) ]))
]
  where
    first : (x y : Sitter) → is_lt (sitter_cmp y x) ≡ false → y.student < x.student → ⊥
    first x y h less = grind (arith, nat_tests)

    second : (x y : Sitter) → is_lt (sitter_cmp y x) ≡ false → is_sitter x.student x.exam y ≡ false
        → y.student ≡ x.student → y.exam ≤ x.exam → ⊥
    second x y h other same not_less = grind (arith, nat_tests)

none_each : (s e : ℕ) (xs : List Sitter) → count_by (is_sitter s e) xs ≡ 0
    → AllByRecursion (λ y. is_sitter s e y ≡ false) xs
none_each s e [] h = tt
none_each s e (x ∷ xs) h =
    let split = sum_by-cons (λ y. cond (is_sitter s e y) 1 0) x xs in
    (zero_is (is_sitter s e x) (let k : ◌≡◌ {A = ℕ} (cond (is_sitter s e x) 1 0) 0 = omega (arith, split, h) in k), none_each s e xs (omega (arith, split, h)))
  where
    zero_is : (b : Bool) → ◌≡◌ {A = ℕ} (cond b 1 0) 0 → b ≡ false
    zero_is true k = absurd (omega (arith, k))
    zero_is false k = refl

each_sooner : (x : Sitter) (ys : List Sitter)
    → AllByRecursion (λ y. is_lt (sitter_cmp y x) ≡ false) ys
    → AllByRecursion (λ y. is_sitter x.student x.exam y ≡ false) ys → AllByRecursion (IsSooner x) ys
each_sooner x [] h k = tt
each_sooner x (y ∷ ys) h k = (sooner x y h.0 k.0, each_sooner x ys h.1 k.1)

strictly : (xs : List Sitter) → IsChain (λ x y. is_lt (sitter_cmp y x) ≡ false) xs
    → ((s e : ℕ) → count_by (is_sitter s e) xs ≤ 1) → IsChain IsSooner xs
strictly [] h k = tt
strictly (x ∷ xs) h k =
    let own : ◌≡◌ {A = ℕ} (cond (is_sitter x.student x.exam x) 1 0) 1 =
    ap₂ (λ a b. cond (a && b) 1 0) (eq-eqb x.exam x.exam refl)
    (eq-eqb x.student x.student refl) in
    let none : count_by (is_sitter x.student x.exam) xs ≡ 0 =
    omega (arith, sum_by-cons (λ y. cond (is_sitter x.student x.exam y) 1 0) x xs, own, k x.student x.exam) in
    (each_sooner x xs h.0 (none_each x.student x.exam xs none), strictly xs h.1 (λ s e. omega (arith, sum_by-cons (λ y. cond (is_sitter s e y) 1 0) x xs, k s e)))

pub sitters_in_order : (E : Enrolled) (edited : List ℕ) (sitters sorted : List Sitter)
    → AreEnrolments E → map pair_of sitters ≡ pairs_concerned E edited
    → IsPermutation sitters sorted → IsSorted sitter_cmp sorted → AllPairs IsSooner sorted
sitters_in_order E edited sitters sorted known are moved order =
    let chain : IsChain ComesBefore (map pair_of sitters) =
    subst (IsChain ComesBefore) (sym are)
    (chain_filter ComesBefore (λ p. sits_among E edited p.student) (pairs_of E)
    (chain_from_index ComesBefore (pairs_of E) (are_pairs E known).ordered)) in
    let counts : (s e : ℕ) → count_by (is_sitter s e) sorted ≤ 1
    = λ s e. (let same = sum_by-IsPermutation
    (λ y. cond (is_sitter s e y) 1 0) sitters sorted moved in
    omega (arith, same, once s e sitters (chain_mapped sitters chain))) in
    let weak : AllPairs (λ x y. is_lt (sitter_cmp y x) ≡ false) sorted
    = λ i j d l m.
    sorted_far (λ x y. is_lt (sitter_cmp x y))
    (ranks_by sitter_cmp_total (λ x. x)) sorted order i j d (omega arith) m in
    index_from_chain IsSooner sorted
    (strictly sorted
    (chain_from_index (λ x y. is_lt (sitter_cmp y x) ≡ false) sorted weak) counts)

pub sitters_few : (E : Enrolled) (edited : List ℕ) (sitters sorted : List Sitter) → AreEnrolments E
    → map pair_of sitters ≡ pairs_concerned E edited
    → IsPermutation sitters sorted → length sorted ≤ 200000
sitters_few E edited sitters sorted known are moved =
    search (rules, are_pairs, length-map, length_filter-le, length_permutation)

-- ---- folded one after the other

each_earlier : (xs : List Sitter) (i : ℕ) (d : Sitter) → i < length xs → AllPairs IsSooner xs
    → AllByRecursion (λ x. IsSooner x (get_or xs i d)) (take i xs)
each_earlier xs i d lt order =
    recursion_from_All (λ x. IsSooner x (get_or xs i d)) (take i xs)
    (λ k e m. (let within : k < i = (let l = length-take i xs in omega (arith, l, m)) in
    subst (λ x. IsSooner x (get_or xs i d)) (sym (get_or-take i xs k e within))
    (subst (λ y. IsSooner (get_or xs k e) y) (get_or_default xs i e d lt) (order k i e within lt))))

pub next_follows : (fold : Folded) (xs : List Sitter) (i : ℕ) (d : Sitter) → i < length xs
    → AllPairs IsSooner xs → RepresentsPairs fold (map pair_of (take i xs))
    → CanFollow fold (pair_of (get_or xs i d))
next_follows fold xs i d lt order h =
    let pair : Pair = pair_of (get_or xs i d) in
    All-from_recursion (λ p. ComesEarlier p pair) fold.current
    (each_append_right (λ p. ComesEarlier p pair) h.closed fold.current
    (subst (AllByRecursion (λ p. ComesEarlier p pair)) h.parts
    (each_of_mapped (λ p. ComesEarlier p pair) (take i xs) (each_earlier xs i d lt order))))

pub fold_few : (fold : Folded) (xs : List Sitter) (i : ℕ) → i < length xs → length xs ≤ 200000
    → RepresentsPairs fold (map pair_of (take i xs)) → fold.count < 200000
fold_few fold xs i lt few h =
    omega (arith, h.count, length-map (take i xs) pair_of, length-take i xs, lt, few)

-- one more pair is folded
pub represents_next : (fold : Folded) (xs : List Sitter) (i : ℕ) (d : Sitter) → i < length xs
    → RepresentsPairs fold (map pair_of (take i xs) ++ pair_of (get_or xs i d) ∷ [])
    → RepresentsPairs fold (map pair_of (take (i + 1) xs))
represents_next fold xs i d lt h = grind (arith, common_steps, map_push, take_more)

-- facts about the edit are facts about the fold
pub edit_is : (fold : Folded) (I : Session) (E : Enrolled) (old new : Placing) (edited : List ℕ)
    (pairs : List Pair) (sizes : List ℕ) (parts : Penalty)
    → IsFoldOf fold I old new edited
    → AreEnrolments E → Fits I E new → IsPermutation (pairs_concerned E edited) pairs
    → AreSizes E sizes → DiffersAtMost edited old new → parts ≡ track I E old
    → IsOfEdit fold E pairs sizes parts
edit_is fold I E old new edited pairs sizes parts is known fits moved sized same scored = record {
  enrolments = known;
  fits = subst (λ z. Fits z E fold.later) (sym is.session)
      (subst (λ T. Fits I E T) (sym is.after) fits);
  concerned = subst (λ es. IsPermutation (pairs_concerned E es) pairs) (sym is.exams) moved;
  sized = sized;
  others = subst (λ es. DiffersAtMost es fold.earlier fold.later) (sym is.exams)
      (subst (λ T. DiffersAtMost edited T fold.later) (sym is.before)
      (subst (λ T. DiffersAtMost edited old T) (sym is.after) same));
  scored = scored ∙ (λ i. track (sym is.session i) E (sym is.before i));
}

-- so the result of the fold is that of the edit
pub track_is : (fold : Folded) (I : Session) (E : Enrolled) (old new : Placing) (edited : List ℕ)
    (r : Option Penalty)
    → IsFoldOf fold I old new edited
    → r ≡ Some (track fold.instance E fold.later) → r ≡ Some (track I E new)
track_is fold I E old new edited r is scored =
    scored ∙ (λ i. Some (track (is.session i) E (is.after i)))

pub some_is : (r : Option Penalty) (x y : Penalty) → r ≡ Some x → r ≡ Some y → x ≡ y
some_is r x y a b = ap (λ (o : Option Penalty). unwrap_or o x) (sym a ∙ b)

pub is_some_of : (r : Option Penalty) (x : Penalty) → r ≡ Some x → IsSome r
is_some_of r x e = subst IsSome (sym e) refl
