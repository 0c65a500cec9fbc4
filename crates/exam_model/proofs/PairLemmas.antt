-- Facts about the list of a set's pairs: by induction over the exams, from any number on.
use Rattle.std.proofs.lemmas.Grind.{common_steps}
use Rattle.std.proofs.Common.{◌≡◌, ℕ, zero, suc, ◌+◌, ◌<◌, ◌≤◌, Bool, false, List, [], ◌∷◌, ◌++◌, length, take, count_by, refl, ap, ◌∙◌, inl, inr, arith, append-nil, append_assoc, length-take, if◌then◌else◌, rules}
use Rattle.std.specs.Prelude.{◌==◌, ◌||◌, ◌&&◌, All}
use Rattle.std.specs.List.{list_any, AllByRecursion}
use Rattle.std.proofs.lemmas.Bool.{eq-eqb, ne_eqb}
use Rattle.std.proofs.lemmas.List.{length-map, length-append, take_more}
use Rattle.std.proofs.lemmas.List.Elements.{All-nil, All-append, All-map, All-weaker, All-from_get_or}
use Rattle.std.proofs.lemmas.List.Folds.{fold-map, list_any-append}
use Rattle.std.proofs.lemmas.List.Kept.{AllPairs-cons}
use Rattle.std.proofs.lemmas.List.Sums.{sum_by-cons, sum_by-append}
use Rattle.std.proofs.Math.Bool.{and-true, or-false, and_comm}
use Rattle.exam_lists.proofs.Counts.{count_by-always, count_by-never}
use Rattle.exam_lists.proofs.Tests.{any_map, any_and}
use Rattle.exam_model.specs.Enrolments.{Enrolled, AreEnrolments, IsAscending, has_number, students, has, size_of, pair_count}
use Rattle.exam_model.specs.Pairs.{Pair, pairs_at, pairs_from, pairs_of, is_pair, ComesBefore, AreInOrder, ArePairsOf}
use Rattle.exam_model.proofs.SameSet.{tail_ascends}

abbrev pair : ℕ → ℕ → Pair
pair e s = record { exam = e; student = s }

-- ---- members

-- a pair is among an exam's if it has that exam and one of its students
any_at : (s e f : ℕ) (xs : List ℕ)
    → list_any (is_pair s e) (pairs_at f xs) ≡ ((f == e) && has_number xs s)
any_at s e f xs = any_map (is_pair s e) (λ t. pair f t) xs
    ∙ any_and (λ t. t == s) (f == e) xs ∙ and_comm (list_any (λ t. t == s) xs) (f == e)

-- it is among the first exam's, or among those of the others
any_first : (s e f : ℕ) (xs : List ℕ) (rest : Enrolled)
    → list_any (is_pair s e) (pairs_from f (xs ∷ rest))
    ≡ (((f == e) && has_number xs s) || list_any (is_pair s e) (pairs_from (f + 1) rest))
any_first s e f xs rest = grind (arith, any_at, list_any-append)

-- no pair has an exam below the first
any_below : (s e f : ℕ) (E : Enrolled) → e < f → list_any (is_pair s e) (pairs_from f E) ≡ false
any_below s e f [] lt = refl
any_below s e f (xs ∷ rest) lt =
    grind (arith, any_below s e (f + 1) rest (omega arith), any_first, ne_eqb)

any_from : (s e f k : ℕ) (E : Enrolled) → e ≡ f + k
    → list_any (is_pair s e) (pairs_from f E) ≡ has E s k
any_from s e f k [] here = refl
any_from s e f zero (xs ∷ rest) here =
    grind (arith, any_below, any_first, eq-eqb, or-false)
any_from s e f (suc k) (xs ∷ rest) here =
    grind (arith, any_from s e (f + 1) k rest (omega arith), any_first, ne_eqb)

-- ---- counts

-- how many pairs of the exam have a student who passes the test: written out in the statements, so
-- that they are about exactly the counts of the law
count_at : (e f : ℕ) (t : ℕ → Bool) (xs : List ℕ)
    → count_by (λ p. (p.exam == e) && t p.student) (pairs_at f xs)
    ≡ count_by (λ s. (f == e) && t s) xs
count_at e f t xs =
    fold-map (λ a p. a + (if (p.exam == e) && t p.student then 1 else 0)) (λ s. pair f s) 0 xs

count_first : (e f : ℕ) (t : ℕ → Bool) (xs : List ℕ) (rest : Enrolled)
    → count_by (λ p. (p.exam == e) && t p.student) (pairs_from f (xs ∷ rest))
    ≡ count_by (λ s. (f == e) && t s) xs
    + count_by (λ p. (p.exam == e) && t p.student) (pairs_from (f + 1) rest)
count_first e f t xs rest = grind (arith, common_steps, count_at, sum_by-append)

-- no pair of an exam below the first is counted
count_below : (e f : ℕ) (t : ℕ → Bool) (E : Enrolled) → e < f
    → count_by (λ p. (p.exam == e) && t p.student) (pairs_from f E) ≡ 0
count_below e f t [] lt = refl
count_below e f t (xs ∷ rest) lt =
    count_first e f t xs rest
    ∙ rw (ne_eqb f e (omega arith))
    (omega (arith, count_by-never xs, count_below e (f + 1) t rest (omega arith)))

pub count_from : (e f k : ℕ) (t : ℕ → Bool) (E : Enrolled) → e ≡ f + k
    → count_by (λ p. (p.exam == e) && t p.student) (pairs_from f E) ≡ count_by t (students E k)
count_from e f k t [] here = refl
count_from e f zero t (xs ∷ rest) here =
    count_first e f t xs rest
    ∙ rw (eq-eqb f e (omega arith)) (omega (arith, count_below e (f + 1) t rest (omega arith)))
count_from e f (suc k) t (xs ∷ rest) here =
    count_first e f t xs rest
    ∙ rw (ne_eqb f e (omega arith))
    (omega (arith, count_by-never xs, count_from e (f + 1) k t rest (omega arith)))

pub length_from : (f : ℕ) (E : Enrolled) → length (pairs_from f E) ≡ pair_count E
length_from f [] = refl
length_from f (xs ∷ rest) =
    grind (arith, common_steps, length_from (f + 1) rest, length-append, length-map, sum_by-cons)

-- ---- the order

above_first : (x : ℕ) (xs : List ℕ) → IsAscending (x ∷ xs) → All (λ y. x < y) xs
above_first x xs up =
    All-from_get_or (λ y. x < y) xs 0 (λ i lt. up 0 (suc i) (omega arith) (omega arith))

-- one exam's pairs, followed by pairs of greater exams
ordered_at : (e : ℕ) (xs : List ℕ) (later : List Pair) → IsAscending xs
    → All (λ q. e < q.exam) later → AreInOrder later → AreInOrder (pairs_at e xs ++ later)
ordered_at e [] later up above order = order
ordered_at e (x ∷ xs) later up above order =
    let first : Pair → Type 0 = ComesBefore (pair e x) in
    let here : All (λ s. first (pair e s)) xs
    = All-weaker (λ y. x < y) (λ s. first (pair e s)) (λ y lt. inr (refl, lt)) xs
    (above_first x xs up) in
    let there : All first later = All-weaker (λ q. e < q.exam) first (λ q lt. inl lt) later above in
    AllPairs-cons ComesBefore (pair e x) (pairs_at e xs ++ later)
    (All-append first (pairs_at e xs) later (All-map first (λ s. pair e s) xs here) there)
    (ordered_at e xs later (tail_ascends x xs up) above order)

exams_from : (f : ℕ) (E : Enrolled) → All (λ p. f ≤ p.exam) (pairs_from f E)
exams_from f [] = All-nil (λ (p : Pair). f ≤ p.exam)
exams_from f (xs ∷ rest) =
    let others : List Pair = pairs_from (f + 1) rest in
    All-append (λ p. f ≤ p.exam) (pairs_at f xs) others
    (All-map (λ p. f ≤ p.exam) (λ s. pair f s) xs (λ k d lt. omega arith))
    (All-weaker (λ p. f + 1 ≤ p.exam) (λ p. f ≤ p.exam) (λ p le. omega arith) others
    (exams_from (f + 1) rest))

ordered_from : (f : ℕ) (E : Enrolled) → ((e : ℕ) → e < length E → IsAscending (students E e))
    → AreInOrder (pairs_from f E)
ordered_from f [] up = λ i j d lt within. absurd (omega arith)
ordered_from f (xs ∷ rest) up =
    let others : List Pair = pairs_from (f + 1) rest in
    let greater : All (λ p. f < p.exam) others
    = All-weaker (λ p. f + 1 ≤ p.exam) (λ p. f < p.exam) (λ p le. omega arith) others
    (exams_from (f + 1) rest) in
    ordered_at f xs others (up 0 (omega arith)) greater
    (ordered_from (f + 1) rest (λ e lt. up (suc e) (omega arith)))

-- ---- one exam more

pairs_from-push : (k : ℕ) (E : Enrolled) (xs : List ℕ)
    → pairs_from k (E ++ xs ∷ []) ≡ pairs_from k E ++ pairs_at (k + length E) xs
pairs_from-push k [] xs = append-nil (pairs_at k xs) ∙ ap (λ n. pairs_at n xs) (omega arith)
pairs_from-push k (ys ∷ E) xs =
    grind (arith, pairs_from-push (k + 1) E xs, append_assoc)

pub pairs_more : (E : Enrolled) (e : ℕ) → e < length E
    → pairs_of (take (e + 1) E) ≡ pairs_of (take e E) ++ pairs_at e (students E e)
pairs_more E e lt = grind (arith, common_steps, length-take, pairs_from-push, take_more)

-- ---- each pair's exam exists

at_within : (n f : ℕ) (xs : List ℕ) (later : List Pair) → f < n
    → AllByRecursion (λ p. p.exam < n) later
    → AllByRecursion (λ p. p.exam < n) (pairs_at f xs ++ later)
at_within n f [] later lt h = h
at_within n f (x ∷ xs) later lt h = (lt, at_within n f xs later lt h)

pub from_within : (n f : ℕ) (E : Enrolled) → f + length E ≤ n
    → AllByRecursion (λ p. p.exam < n) (pairs_from f E)
from_within n f [] h = tt
from_within n f (xs ∷ rest) h =
    grind (arith, from_within n (f + 1) rest (omega arith), at_within)

-- ---- all of it

size_from : (e : ℕ) (E : Enrolled) → count_by (λ p. p.exam == e) (pairs_of E) ≡ size_of E e
size_from e E = search (rules, and-true, count_by-always, count_from)

-- the list of a set's pairs represents the set
pub are_pairs : (E : Enrolled) → AreEnrolments E → ArePairsOf E (pairs_of E)
are_pairs E is = record {
  members = λ s e. any_from s e 0 e E (omega arith);
  count = length_from 0 E;
  sizes = λ e. size_from e E;
  sharing = λ e f. count_from e 0 e (λ s. has E s f) E (omega arith);
  ordered = ordered_from 0 E is.ascending;
}
