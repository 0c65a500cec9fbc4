-- All pairs of exams in order, and the list of those that pass a test.
use Rattle.std.proofs.lemmas.Grind.{common_steps}
use Rattle.std.specs.List.{AllByRecursion, list_any, flat_map, range_with_len}
use Rattle.std.specs.List.Sorted.{IsStrictlySortedBy}
use Rattle.std.proofs.Common.{◌≡◌, ℕ, zero, suc, ◌+◌, ◌<◌, ◌≤◌, Bool, true, ◌&&◌, nat_lt, List, map, Contains, Less, refl, sym, ◌∙◌, ap₂, arith, rules}
use Rattle.std.proofs.lemmas.Bool.{and_from, lt-ltb}
use Rattle.std.proofs.lemmas.Bool.Decides.{nat_tests}
use Rattle.std.proofs.lemmas.List.Elements.{filter_passes, All-contains}
use Rattle.std.proofs.lemmas.List.Kept.{IsStrictlySortedBy-filter}
use Rattle.exam_lists.proofs.Each.{each_append, each_weaker}
use Rattle.exam_lists.proofs.Members.{contains_filter}
use Rattle.exam_lists.proofs.Ranges.{any_below}
use Rattle.exam_lists.proofs.Sorted.{same_sorted, sorted_append, sorted_cons, sorted_nil}
use Rattle.exam_rules.specs.Breach.{exam_pair_cmp, pair, is_pair, exam_pairs, passing_pairs, HasJust}
use Rattle.exam_rules.specs.declared.exam_pair.ExamPair.{ExamPair}
use Rattle.exam_rules.proofs.OrderLemmas.{exam_pair_cmp_total}
use Rattle.exam_rules.proofs.MemberLemmas.{any_rows, any_from_contains, contains_from_any}

lesser_exam : (a b : ExamPair) → a.exam < b.exam → exam_pair_cmp a b ≡ Less
lesser_exam a b h = grind (arith, nat_tests)

lesser_other : (a b : ExamPair) → a.exam ≡ b.exam → a.other < b.other → exam_pair_cmp a b ≡ Less
lesser_other a b e h = grind (arith, nat_tests)

-- the pairs of exam e with the m exams from a on
abbrev row : ℕ → ℕ → ℕ → List ExamPair
row e a m = map (pair e) (range_with_len a m)

row_of : (e a m : ℕ) → AllByRecursion (λ p. (p.exam ≡ e) × (a ≤ p.other)) (row e a m)
row_of e a zero = tt
row_of e a (suc m) = (
  (refl, omega arith),
  each_weaker (λ p. (p.exam ≡ e) × (a + 1 ≤ p.other)) (λ p. (p.exam ≡ e) × (a ≤ p.other))
      (λ p h. (h.0, omega (arith, h.1))) (row e (a + 1) m) (row_of e (a + 1) m),
)

row_sorted : (e a m : ℕ) → IsStrictlySortedBy exam_pair_cmp (row e a m)
row_sorted e a zero = sorted_nil exam_pair_cmp
row_sorted e a (suc m) =
    search (rules, row_sorted e (a + 1) m, each_weaker, lesser_other, row_of, sorted_cons)

-- the pairs of the k exams from a on with the exams below n
abbrev rows : ℕ → ℕ → ℕ → List ExamPair
rows n a k = flat_map (λ e. map (pair e) (range_with_len 0 n)) (range_with_len a k)

rows_of : (n a k : ℕ) → AllByRecursion (λ p. a ≤ p.exam) (rows n a k)
rows_of n a zero = tt
rows_of n a (suc k) =
    grind (arith, common_steps, rows_of n (a + 1) k, each_append, each_weaker, row_of)

rows_sorted : (n a k : ℕ) → IsStrictlySortedBy exam_pair_cmp (rows n a k)
rows_sorted n a zero = sorted_nil exam_pair_cmp
rows_sorted n a (suc k) =
    let later = rows_of n (a + 1) k in
    sorted_append exam_pair_cmp (row a 0 n) (rows n (a + 1) k) (row_sorted a 0 n)
    (rows_sorted n (a + 1) k)
    (each_weaker (λ p. (p.exam ≡ a) × (0 ≤ p.other))
    (λ p. AllByRecursion (λ q. exam_pair_cmp p q ≡ Less) (rows n (a + 1) k))
    (λ p h. each_weaker (λ q. a + 1 ≤ q.exam) (λ q. exam_pair_cmp p q ≡ Less)
    (λ q g. lesser_exam p q (omega (arith, h.0, g))) (rows n (a + 1) k) later)
    (row a 0 n) (row_of a 0 n))

-- all pairs of existing exams are there
pairs_have : (n e f : ℕ) → list_any (is_pair e f) (exam_pairs n) ≡ (nat_lt e n && nat_lt f n)
pairs_have n e f =
    any_rows e f (λ k. range_with_len 0 n) (range_with_len 0 n)
    ∙ ap₂ (λ a b. a && b) (any_below e n) (any_below f n)

-- ---- what a test leaves

-- the pairs that pass are in order
pub passing_sorted : (test : ℕ → ℕ → Bool) (n : ℕ)
    → IsStrictlySortedBy exam_pair_cmp (passing_pairs test n)
passing_sorted test n = grind (arith, common_steps, IsStrictlySortedBy-filter, rows_sorted)

-- each of them passes
pub passing_only : (test : ℕ → ℕ → Bool) (n : ℕ) (p : ExamPair) → Contains (passing_pairs test n) p
    → test p.exam p.other ≡ true
passing_only test n p h = grind (arith, common_steps, All-contains, filter_passes)

-- each pair that passes is in the list
pub passing_all : (test : ℕ → ℕ → Bool) (n : ℕ) (p : ExamPair) → (p.exam < n) × (p.other < n)
    → test p.exam p.other ≡ true → Contains (passing_pairs test n) p
passing_all test n p exist passes =
    let there = pairs_have n p.exam p.other
    ∙ and_from (nat_lt p.exam n) (nat_lt p.other n) (lt-ltb p.exam n exist.0)
    (lt-ltb p.other n exist.1) in
    contains_filter (λ (q : ExamPair). test q.exam q.other) (exam_pairs n) p
    (contains_from_any p.exam p.other (exam_pairs n) there) passes

-- a strictly sorted list with the members of a list that has exactly the pairs that pass
pub passing_is : (test : ℕ → ℕ → Bool) (n : ℕ) (found sorted : List ExamPair) → HasJust test n found
    → IsStrictlySortedBy exam_pair_cmp sorted
    → ((p : ExamPair) → Contains found p → Contains sorted p)
    → ((p : ExamPair) → Contains sorted p → Contains found p)
    → sorted ≡ passing_pairs test n
passing_is test n found sorted just up keeps adds_none =
    same_sorted exam_pair_cmp_total sorted (passing_pairs test n) up (passing_sorted test n)
    (λ p h. sound p (adds_none p h))
    (λ p h. keeps p
    (contains_from_any p.exam p.other found
    (just.members p.exam p.other ∙ passing_only test n p h)))
  where
    sound : (p : ExamPair) → Contains found p → Contains (passing_pairs test n) p
    sound p h =
        let passes = sym (just.members p.exam p.other) ∙ any_from_contains p.exam p.other found h in
        passing_all test n p (just.exist p.exam p.other passes) passes
