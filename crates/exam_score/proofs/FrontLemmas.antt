-- How many exams are larger, by the list of their sizes.
use Rattle.std.proofs.Common.{◌≡◌, ℕ, zero, suc, ◌+◌, ◌-◌, ◌<◌, ◌≤◌, take_all, Bool, true, false, cond, List, Some, length, take, drop, count_by, refl, sym, ◌∙◌, ap, arith, add-one, [], ◌∷◌, ◌++◌, subst, rules}
use Rattle.std.specs.Prelude.{slice_index, nat_lt, nat_le, ◌==◌, ◌&&◌, ◌||◌}
use Rattle.std.proofs.lemmas.Bool.Decides.{nat_tests}
use Rattle.std.proofs.lemmas.Grind.{common_steps}
use Rattle.std.proofs.lemmas.List.{length_push}
use Rattle.std.proofs.lemmas.List.Sums.{count_by_more_no, count_by_more_yes, sum_by_more, sum_by-take-drop}
use Rattle.exam_lists.proofs.Counts.{count_by-le, count_by-reaches}
use Rattle.exam_model.specs.Enrolments.{Enrolled, size_of}
use Rattle.exam_model.specs.Instance.{Session}
use Rattle.exam_model.specs.Sums.{count_below}
use Rattle.exam_model.specs.Timetable.{Placing, place_of}
use Rattle.exam_model.proofs.SumLemmas.{sum_below-within, sum_below_more}
use Rattle.exam_score.specs.Front.{AreSizes, AreTies, IsBar, is_larger_by, front_by}
use Rattle.exam_score.specs.FrontLoad.{exam_front}
use Rattle.exam_score.specs.declared.front.Bar.{Bar}

-- a count over the first elements, by their indexes
counted : (p : ℕ → Bool) (xs : List ℕ) (n : ℕ) → n ≤ length xs
    → count_by p (take n xs) ≡ count_below n (λ f. p (slice_index xs f))
counted p xs zero h = refl
counted p xs (suc n) h =
    ap (λ k. count_by p (take k xs)) (sym (add-one n))
    ∙ sum_by_more (λ x. cond (p x) 1 0) xs n 0 (omega arith)
    ∙ ap (λ k. k + cond (p (slice_index xs n)) 1 0) (counted p xs n (omega arith))

-- a test that equals one test below e, and another from e on
split : (r p q : ℕ → Bool) (e k n : ℕ) → n ≡ e + k → ((f : ℕ) → f < e → r f ≡ p f)
    → ((f : ℕ) → e ≤ f → r f ≡ q f)
    → count_below n r + count_below e q ≡ count_below e p + count_below n q
split r p q e zero n is below above = grind (arith, sum_below-within)
split r p q e (suc k) zero is below above = absurd (omega arith)
split r p q e (suc k) (suc n) is below above =
    grind (arith, split r p q e k n (omega arith) below above)

larger_before : (a b f e : ℕ) → f < e → (nat_lt a b || ((b == a) && nat_lt f e)) ≡ nat_le a b
larger_before a b f e h = grind (arith, nat_tests)

larger_after : (a b f e : ℕ) → e ≤ f → (nat_lt a b || ((b == a) && nat_lt f e)) ≡ nat_lt a b
larger_after a b f e h = grind (arith, nat_tests)

-- the exams before it that are at least as large, and the others that are larger
pub larger_count : (sizes : List ℕ) (e : ℕ) → e < length sizes
    → count_below (length sizes) (λ f. is_larger_by sizes f e)
    ≡ count_by (λ x. nat_le (slice_index sizes e) x) (take e sizes)
    + count_by (λ x. nat_lt (slice_index sizes e) x) (drop e sizes)
larger_count sizes e h =
    let a = slice_index sizes e in
    let parts = split (λ f. is_larger_by sizes f e) (λ f. nat_le a (slice_index sizes f))
    (λ f. nat_lt a (slice_index sizes f)) e (length sizes - e) (length sizes) (omega arith)
    (λ f l. larger_before a (slice_index sizes f) f e l)
    (λ f l. larger_after a (slice_index sizes f) f e l) in
    let first = counted (λ x. nat_le a x) sizes e (omega arith) in
    let first_greater = counted (λ x. nat_lt a x) sizes e (omega arith) in
    let all_greater = counted (λ x. nat_lt a x) sizes (length sizes) (omega arith) in
    let whole : count_by (λ x. nat_lt a x) (take (length sizes) sizes)
    ≡ count_by (λ x. nat_lt a x) sizes = grind (arith, common_steps, take_all) in
    let rest = sum_by-take-drop (λ x. cond (nat_lt a x) 1 0) sizes e in
    omega arith

-- ---- a bar

lt_by_le : (t a x : ℕ) → t < a → nat_le a x ≡ true → nat_lt t x ≡ true
lt_by_le t a x less le = grind (arith, nat_tests)

lt_by_lt : (t a x : ℕ) → t < a → nat_lt a x ≡ true → nat_lt t x ≡ true
lt_by_lt t a x less lt = grind (arith, nat_tests)

le_by_le : (t a x : ℕ) → a < t → nat_le t x ≡ true → nat_le a x ≡ true
le_by_le t a x less le = grind (arith, nat_tests)

lt_by_bar : (t a x : ℕ) → a < t → nat_le t x ≡ true → nat_lt a x ≡ true
lt_by_bar t a x less le = grind (arith, nat_tests)

is_lt : (a b : ℕ) → a < b → nat_lt a b ≡ true
is_lt a b less = grind (arith, nat_tests)

is_no_lt : (a b : ℕ) → b ≤ a → nat_lt a b ≡ false
is_no_lt a b le = grind (arith, nat_tests)

-- an exam above the bar is among the largest
pub above_bar : (sizes : List ℕ) (most e : ℕ) (b : Bar) → IsBar sizes most b → e < length sizes
    → b.size < slice_index sizes e
    → nat_lt (count_below (length sizes) (λ f. is_larger_by sizes f e)) most ≡ true
above_bar sizes most e b bar within less =
    let t = b.size in
    let a = slice_index sizes e in
    let count = larger_count sizes e within in
    let first = count_by-le (λ x. nat_le a x) (λ x. nat_lt t x) (take e sizes)
    (λ x h. lt_by_le t a x less h) in
    let others = count_by-le (λ x. nat_lt a x) (λ x. nat_lt t x) (drop (e + 1) sizes)
    (λ x h. lt_by_lt t a x less h) in
    let all = sum_by-take-drop (λ x. cond (nat_lt a x) 1 0) sizes e in
    let all_more = sum_by-take-drop (λ x. cond (nat_lt a x) 1 0) sizes (e + 1) in
    let parts = sum_by-take-drop (λ x. cond (nat_lt t x) 1 0) sizes (e + 1) in
    let own = count_by_more_no (λ x. nat_lt a x) sizes e 0 within (is_no_lt a a (omega arith)) in
    let one = count_by_more_yes (λ x. nat_lt t x) sizes e 0 within (is_lt t a less) in
    is_lt _ most (omega (arith, bar.above, bar.counted))

-- one below it is not
pub below_bar : (sizes : List ℕ) (most e : ℕ) (b : Bar) → IsBar sizes most b → e < length sizes
    → slice_index sizes e < b.size
    → nat_lt (count_below (length sizes) (λ f. is_larger_by sizes f e)) most ≡ false
below_bar sizes most e b bar within less =
    let t = b.size in
    let a = slice_index sizes e in
    let count = larger_count sizes e within in
    let first = count_by-le (λ x. nat_le t x) (λ x. nat_le a x) (take e sizes)
    (λ x h. le_by_le t a x less h) in
    let others = count_by-le (λ x. nat_le t x) (λ x. nat_lt a x) (drop e sizes)
    (λ x h. lt_by_bar t a x less h) in
    let parts = sum_by-take-drop (λ x. cond (nat_le t x) 1 0) sizes e in
    is_no_lt _ most (omega (arith, bar.reached))

-- one of the bar's size comes after those above the bar and the ties before it
pub at_bar : (sizes : List ℕ) (most ties e : ℕ) (b : Bar) → IsBar sizes most b
    → AreTies sizes (Some b) ties e → e < length sizes → slice_index sizes e ≡ b.size
    → nat_lt (count_below (length sizes) (λ f. is_larger_by sizes f e)) most
    ≡ nat_lt (b.above + ties) most
at_bar sizes most ties e b bar tied within same =
    let t = b.size in
    let count : count_below (length sizes) (λ f. is_larger_by sizes f e)
    ≡ count_by (λ x. nat_le t x) (take e sizes) + count_by (λ x. nat_lt t x) (drop e sizes) =
    search (rules, larger_count) in
    let reached = count_by-reaches t (take e sizes) in
    let parts = sum_by-take-drop (λ x. cond (nat_lt t x) 1 0) sizes e in
    let counted = bar.counted in
    let before = tied.count in
    ap (λ n. nat_lt n most) (omega (arith, count, reached, parts, counted, before))

-- by the sizes or by the enrolments
pub front_by_sizes : (I : Session) (E : Enrolled) (T : Placing) (sizes : List ℕ) (e : ℕ)
    → AreSizes E sizes → length E ≡ length I.exams → e < length E
    → front_by I sizes (place_of T e) e ≡ exam_front I E T e
front_by_sizes I E T sizes e are exams within = grind (arith, sum_below-within)

sizes_push : (E : Enrolled) (xs : List ℕ) (n e : ℕ)
    → ((f : ℕ) → f < length xs → slice_index xs f ≡ size_of E f) → n ≡ size_of E (length xs)
    → e < length (xs ++ n ∷ []) → slice_index (xs ++ n ∷ []) e ≡ size_of E e
sizes_push E xs n e each is within = grind (arith, common_steps)

-- the sizes of the exams before one, followed by its own
pub sizes_more : (E : Enrolled) (xs ys : List ℕ) (n e : ℕ) → ys ≡ xs ++ n ∷ [] → n ≡ size_of E e
    → length xs ≡ e → ((f : ℕ) → f < length xs → slice_index xs f ≡ size_of E f)
    → record { count : length ys ≡ e + 1; each : (f : ℕ) → f < length ys → slice_index ys f ≡ size_of E f }
sizes_more E xs ys n e items is count each = record {
  count = ap length items ∙ length_push xs n ∙ ap (λ k. k + 1) count;
  each = λ f. subst (λ zs. f < length zs → slice_index zs f ≡ size_of E f) (sym items)
      (sizes_push E xs n f each (is ∙ ap (size_of E) (sym count)));
}

pub ruleset front_facts = (sum_below_more, front_by_sizes)
