-- Conflicts: the students whom two exams share, counted along the sitters, and sums over conflicts.
use Rattle.std.proofs.lemmas.Grind.{common_steps}
use Rattle.std.specs.List.{list_any, AllByRecursion}
use Rattle.std.specs.Prelude.{◌==◌, ◌&&◌, ◌||◌, All}
use Rattle.std.proofs.Common.{◌≡◌, ◌≢◌, ◌++◌, append_assoc, append-nil, ℕ, zero, suc, ◌+◌, ◌*◌, ◌<◌, ◌≤◌, Bool, false, cond, ltb, lt-ltb, le-ltb, inl, inr, List, [], ◌∷◌, length, map, sum_by, count_by, refl, ap, sym, ◌∙◌, subst, arith, zero-mul, add-zero, eqb-true, rules}
use Rattle.std.proofs.lemmas.Bool.{cases_eq, cases_lt, eq-eqb, ne_eqb}
use Rattle.std.proofs.lemmas.List.{get_or_past}
use Rattle.std.proofs.lemmas.List.Elements.{All-append, All-from_recursion, All-nil}
use Rattle.std.proofs.lemmas.List.Folds.{list_any-append}
use Rattle.std.proofs.lemmas.List.Sums.{sum_by-append, sum_by-cons}
use Rattle.std.proofs.Math.Bool.{and-false, and-true, or-false}
use Rattle.exam_lists.proofs.Booleans.{eqb_swap, cond_either}
use Rattle.exam_lists.proofs.Sums.{sum_by-same, sum_by-turned, sum_by-zeros}
use Rattle.exam_model.specs.Conflicts.{conflict_if, conflicts_below, conflicts_of, conflicts_with, is_conflict}
use Rattle.exam_model.specs.Enrolments.{AreEnrolments, Enrolled, IsAscending, has_number, shared_students, students}
use Rattle.exam_model.specs.Pairs.{Pair}
use Rattle.exam_model.specs.Sitters.{is_sitter}
use Rattle.exam_model.specs.Sums.{sum_below, sum_pairs_below}
use Rattle.exam_model.specs.declared.conflicts.Conflict.{Conflict}
use Rattle.exam_model.specs.declared.sitter.Sitter.{Sitter}
use Rattle.exam_model.proofs.SameSet.{first_once, tail_ascends}

-- ---- sums over conflicts

-- the sum of g over conflicts, each as often as it has students
abbrev weighed : (ℕ → ℕ → ℕ) → Conflict → ℕ
weighed g c = c.students * g c.exam c.other

sum_if : (g : ℕ → ℕ → ℕ) (e f n : ℕ) → sum_by (weighed g) (conflict_if e f n) ≡ n * g e f
sum_if g e f n = grind (arith, add-zero, eqb-true, sum_by-cons, zero-mul)

sum_with : (g : ℕ → ℕ → ℕ) (E : Enrolled) (f n : ℕ)
    → sum_by (weighed g) (conflicts_with E f n) ≡ sum_below n (λ e. shared_students E e f * g e f)
sum_with g E f zero = refl
sum_with g E f (suc n) = grind (arith, sum_with g E f n, sum_by-append, sum_if)

sum_less : (g : ℕ → ℕ → ℕ) (E : Enrolled) (n : ℕ)
    → sum_by (weighed g) (conflicts_below E n) ≡ sum_pairs_below n (λ e f. shared_students E e f * g e f)
sum_less g E zero = refl
sum_less g E (suc f) = grind (arith, sum_less g E f, sum_by-append, sum_with)

-- the sum over all conflicts is the sum over all pairs of exams
pub sum_of_conflicts : (g : ℕ → ℕ → ℕ) (E : Enrolled)
    → sum_by (λ c. c.students * g c.exam c.other) (conflicts_of E)
    ≡ sum_pairs_below (length E) (λ e f. shared_students E e f * g e f)
sum_of_conflicts g E = sum_less g E (length E)

-- ---- counts along a list

-- no sitter of another student is counted
pub other_student : (s e : ℕ) (x : Sitter) → (x.student ≡ s → ⊥) → is_sitter s e x ≡ false
other_student s e x other =
    ap (λ b. (x.exam == e) && b) (ne_eqb x.student s other) ∙ and-false (x.exam == e)

-- ---- the students that two exams share

-- a number is once in an ascending list, or not at all
pub counted_once : (xs : List ℕ) (s : ℕ) → IsAscending xs
    → count_by (λ t. t == s) xs ≡ cond (has_number xs s) 1 0
counted_once [] s up = refl
counted_once (x ∷ xs) s up =
    sum_by-cons (λ t. cond (t == s) 1 0) x xs
    ∙ ap (λ n. cond (x == s) 1 0 + n) (counted_once xs s (tail_ascends x xs up))
    ∙ cond_either (x == s) (has_number xs s)
    (λ is. subst (λ t. has_number xs t ≡ false) (eqb-true x s is) (first_once x xs up))

-- each student of exam f counted among those of exam e: the students that they share
pub shared_by_sitters : (E : Enrolled) (e f : ℕ) → AreEnrolments E → f < length E
    → sum_by (λ s. count_by (λ t. t == s) (students E e)) (students E f) ≡ shared_students E e f
shared_by_sitters E e f known lt =
    sum_by-turned (λ s t. cond (t == s) 1 0) (students E f) (students E e)
    ∙ sum_by-same _ _ (λ t.
    sum_by-same _ _ (λ s. ap (λ b. cond b 1 0) (eqb_swap t s)) (students E f)
    ∙ counted_once (students E f) t (known.ascending f lt)) (students E e)

-- a fact about the pairs that elements are mapped to
pub each_mapped : {X : Type 0} (f : X → Pair) (P : Pair → Type 0) (xs : List X)
    → AllByRecursion P (map f xs) → AllByRecursion (λ x. P (f x)) xs
each_mapped f P [] h = tt
each_mapped f P (x ∷ xs) h = (h.0, each_mapped f P xs h.1)

-- ---- one exam more

-- it shares students
pub with_some : (E : Enrolled) (f e n : ℕ) (old found : List Conflict) → n ≡ shared_students E e f → n ≢ 0
    → found ≡ old ++ conflicts_with E f e
    → found ++ record { exam = e; other = f; students = n } ∷ [] ≡ old ++ conflicts_with E f (e + 1)
with_some E f e n old found is some was = grind (arith, append_assoc, ne_eqb)

-- it shares none
pub with_none : (E : Enrolled) (f e : ℕ) (old found : List Conflict) → 0 ≡ shared_students E e f
    → found ≡ old ++ conflicts_with E f e → found ≡ old ++ conflicts_with E f (e + 1)
with_none E f e old found is was = search (rules, append-nil)

-- ---- the exams of conflicts

exist_if : (e f n m : ℕ) → e < m → f < m
    → All (λ (c : Conflict). (c.exam < m) × (c.other < m)) (conflict_if e f n)
exist_if e f n m one two = grind (arith, All-from_recursion, All-nil)

exist_with : (E : Enrolled) (f n m : ℕ) → n ≤ m → f < m
    → All (λ (c : Conflict). (c.exam < m) × (c.other < m)) (conflicts_with E f n)
exist_with E f zero m le lt = All-nil (λ (c : Conflict). (c.exam < m) × (c.other < m))
exist_with E f (suc n) m le lt =
    grind (arith, common_steps, exist_with E f n m (omega arith) lt, All-append, exist_if)

exist_below : (E : Enrolled) (n m : ℕ) → n ≤ m
    → All (λ (c : Conflict). (c.exam < m) × (c.other < m)) (conflicts_below E n)
exist_below E zero m le = All-nil (λ (c : Conflict). (c.exam < m) × (c.other < m))
exist_below E (suc f) m le =
    All-append (λ (c : Conflict). (c.exam < m) × (c.other < m)) (conflicts_below E f) (conflicts_with E f f)
    (exist_below E f m (omega arith)) (exist_with E f f m (omega arith) (omega arith))

-- both exams of each conflict exist
pub conflicts_exist : (E : Enrolled)
    → All (λ (c : Conflict). (c.exam < length E) × (c.other < length E)) (conflicts_of E)
conflicts_exist E = exist_below E (length E) (length E) (omega arith)

-- ---- which conflicts there are

any_if : (e f a b n : ℕ)
    → list_any (is_conflict e f) (conflict_if a b n) ≡ (((a == e) && (b == f)) && ltb 0 n)
any_if e f a b n = grind (arith, eqb-true)

with_step : (e f b n : ℕ) (s : ℕ → Bool)
    → (((ltb e n && (b == f)) && s e) || (((n == e) && (b == f)) && s n))
    ≡ ((ltb e (suc n) && (b == f)) && s e)
with_step e f b n s =
    grind (arith, cases_eq, eq-eqb, le-ltb, lt-ltb, ne_eqb, or-false)

any_with : (E : Enrolled) (e f b n : ℕ) → list_any (is_conflict e f) (conflicts_with E b n)
    ≡ ((ltb e n && (b == f)) && ltb 0 (shared_students E e b))
any_with E e f b zero = rw (le-ltb e 0 (omega arith)) refl
any_with E e f b (suc n) =
    grind (arith, any_with E e f b n, any_if, list_any-append, with_step)

below_step : (e f b n : ℕ) (s : ℕ → Bool)
    → (((ltb f n && ltb e f) && s f) || ((ltb e n && (n == f)) && s n))
    ≡ ((ltb f (suc n) && ltb e f) && s f)
below_step e f b n s =
    grind (
      arith,
      common_steps,
      and-false,
      and-true,
      cases_eq,
      eq-eqb,
      le-ltb,
      lt-ltb,
      ne_eqb,
      or-false,
    )

any_below : (E : Enrolled) (e f n : ℕ) → list_any (is_conflict e f) (conflicts_below E n)
    ≡ ((ltb f n && ltb e f) && ltb 0 (shared_students E e f))
any_below E e f zero = rw (le-ltb f 0 (omega arith)) refl
any_below E e f (suc n) = grind (arith, any_below E e f n, any_with, below_step, list_any-append)

none_shared : (E : Enrolled) (e f : ℕ) → length E ≤ f → shared_students E e f ≡ 0
none_shared E e f past = search (rules, get_or_past, sum_by-zeros)

-- the conflicts are the pairs of exams that share a student, the smaller one first
pub conflict_members : (E : Enrolled) (e f : ℕ)
    → list_any (is_conflict e f) (conflicts_of E) ≡ (ltb e f && ltb 0 (shared_students E e f))
conflict_members E e f =
    any_below E e f (length E)
    ∙ (elim (cases_lt f (length E)) [
      | inl lt ↦ rw (lt-ltb f (length E) lt) refl
      | inr past ↦ rw (le-ltb f (length E) past, none_shared E e f past)
          (sym (and-false (ltb e f)))
    ])
