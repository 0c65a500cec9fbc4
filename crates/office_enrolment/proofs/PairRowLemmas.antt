-- The list of all pairs if one pair is added or removed.
use Rattle.std.proofs.lemmas.Grind.{common_steps}
use Rattle.std.proofs.Common.{◌≡◌, ◌≢◌, ◌∙◌, ℕ, zero, suc, ◌+◌, ◌<◌, Bool, true, false, List, [], ◌∷◌, ◌++◌, filter, length, refl, ap, sym, arith, subst}
use Rattle.std.specs.Prelude.{◌==◌, ◌&&◌, not, IsPermutation}
use Rattle.std.proofs.lemmas.Bool.{eq-eqb, ne_eqb, cases_eq, or_parts}
use Rattle.std.proofs.lemmas.List.Elements.{filter-append, filter_agree}
use Rattle.std.proofs.lemmas.List.Sorted.{IsPermutation-refl, IsPermutation-sym, IsPermutation-cons, IsPermutation-map, IsPermutation-trans, IsPermutation-middle, IsPermutation-append_left, IsPermutation-append_right}
use Rattle.std.proofs.Math.Bool.{and-false, and-true}
use Rattle.exam_lists.proofs.Filters.{filter-map}
use Rattle.exam_model.specs.Changes.{with_student, without_student, with_pair, without_pair}
use Rattle.exam_model.specs.Enrolments.{Enrolled, IsAscending, has_number, has}
use Rattle.exam_model.specs.Pairs.{Pair, is_pair, pairs_at, pairs_from}
use Rattle.exam_model.proofs.SameSet.{same_list}
use Rattle.exam_model.proofs.StudentLemmas.{with_cases, has-with, has-without, ascending-with, ascending-without}

-- ---- one exam's students

-- adding a student who is there doesn't change the list
pub with_again : (s : ℕ) (xs : List ℕ) → IsAscending xs → has_number xs s ≡ true
    → with_student s xs ≡ xs
with_again s xs up is = grind (arith, common_steps, same_list, ascending-with, has-with, cases_eq, eq-eqb, ne_eqb)

-- removing a student who isn't there doesn't change the list
pub without_again : (s : ℕ) (xs : List ℕ) → IsAscending xs → has_number xs s ≡ false
    → without_student s xs ≡ xs
without_again s xs up isnt =
    grind (arith, common_steps, same_list, ascending-without, has-without, cases_eq, eq-eqb, ne_eqb)

-- a new student is added to all others
pub with_new : (s : ℕ) (xs : List ℕ) → has_number xs s ≡ false
    → IsPermutation (s ∷ xs) (with_student s xs)
with_new s [] isnt = IsPermutation-refl (s ∷ [])
with_new s (u ∷ us) isnt =
    let parts = or_parts (u == s) (has_number us s) isnt in
    with_cases s u us (IsPermutation (s ∷ u ∷ us))
    (λ before. IsPermutation-refl (s ∷ u ∷ us))
    (λ same. absurd (cc (sym (eq-eqb u s (sym same)) ∙ parts.0)))
    (λ after. IsPermutation-trans (s ∷ u ∷ us) (u ∷ s ∷ us) (u ∷ with_student s us)
    (IsPermutation-middle (s ∷ []) u us)
    (IsPermutation-cons u (s ∷ us) (with_student s us) (with_new s us parts.1)))

-- ---- all pairs

abbrev pair : ℕ → ℕ → Pair
pair e s = record { exam = e; student = s }

-- a new pair is added to all others
pub pairs-with : (s e f k : ℕ) (E : Enrolled) → e ≡ f + k → k < length E → has E s k ≡ false
    → IsPermutation (pair e s ∷ pairs_from f E) (pairs_from f (with_pair E s k))
pairs-with s e f k [] is lt isnt = absurd (omega arith)
pairs-with s e f zero (xs ∷ rest) is lt isnt =
    let here : e ≡ f = omega arith in
    let others : List Pair = pairs_from (f + 1) rest in
    let turned : List ℕ → List Pair = λ (ys : List ℕ). pairs_at f ys in
    subst (λ (g : ℕ). IsPermutation (pair g s ∷ pairs_at f xs ++ others)
    (turned (with_student s xs) ++ others)) (sym here)
    (IsPermutation-append_left others (pair f s ∷ pairs_at f xs) (turned (with_student s xs))
    (IsPermutation-map (λ t. pair f t) (s ∷ xs) (with_student s xs) (with_new s xs isnt)))
pairs-with s e f (suc k) (xs ∷ rest) is lt isnt =
    let first : List Pair = pairs_at f xs in
    let old : List Pair = pairs_from (f + 1) rest in
    let new : List Pair = pairs_from (f + 1) (with_pair rest s k) in
    IsPermutation-trans (pair e s ∷ (first ++ old)) (first ++ pair e s ∷ old) (first ++ new)
    (IsPermutation-sym (first ++ pair e s ∷ old) (pair e s ∷ (first ++ old))
    (IsPermutation-middle first (pair e s) old))
    (IsPermutation-append_right first (pair e s ∷ old) new
    (pairs-with s e (f + 1) k rest (omega arith) (omega arith) isnt))

-- whether it is another pair
abbrev pub is_other : ℕ → ℕ → Pair → Bool
is_other s e p = not (is_pair s e p)

-- another exam's pairs are others
others_at : (s e f : ℕ) (xs : List ℕ) → f ≢ e
    → filter (is_other s e) (pairs_at f xs) ≡ pairs_at f xs
others_at s e f [] apart = refl
others_at s e f (x ∷ xs) apart =
    rw (ne_eqb f e apart, and-false (x == s))
    (ap (λ (ps : List Pair). pair f x ∷ ps) (others_at s e f xs apart))

-- the pairs of greater exams are others
others_from : (s e f : ℕ) (E : Enrolled) → e < f
    → filter (is_other s e) (pairs_from f E) ≡ pairs_from f E
others_from s e f [] lt = refl
others_from s e f (xs ∷ rest) lt =
    grind (arith, common_steps, filter-append, others_at, others_from s e (f + 1) rest (omega arith))

-- the exam's own pairs, except the student's, are others
own_at : (s e : ℕ) (xs : List ℕ)
    → filter (is_other s e) (pairs_at e xs) ≡ pairs_at e (without_student s xs)
own_at s e xs = grind (arith, common_steps, filter-map, filter_agree, eq-eqb, and-true)

-- removing a pair leaves all others
pub pairs-without : (s e f k : ℕ) (E : Enrolled) → e ≡ f + k
    → filter (is_other s e) (pairs_from f E) ≡ pairs_from f (without_pair E s k)
pairs-without s e f k [] is = refl
pairs-without s e f zero (xs ∷ rest) is = grind (arith, common_steps, filter-append, own_at, others_from)
pairs-without s e f (suc k) (xs ∷ rest) is =
    grind (arith, common_steps, filter-append, others_at, pairs-without s e (f + 1) k rest (omega arith))
