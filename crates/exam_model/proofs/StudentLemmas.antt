-- The results of adding a student to an ascending list, and of removing one.
use Rattle.std.proofs.lemmas.Grind.{common_steps}
use Rattle.std.proofs.Common.{◌≡◌, ◌≢◌, ◌∙◌, ℕ, zero, suc, ◌<◌, true, false, List, [], ◌∷◌, length, set, refl, ap, sym, inl, inr, arith, if◌then◌else◌}
use Rattle.std.proofs.Common.{get_or-set_other, get_or-set_same}
use Rattle.std.specs.Prelude.{◌==◌, ◌||◌, ◌&&◌, not}
use Rattle.std.specs.List.{AllByRecursion}
use Rattle.std.proofs.lemmas.Bool.{ltb-true, ltb-false, eqb-true, eqb-false, ne_eqb, eq-eqb, cases_eq, cases_lt}
use Rattle.std.proofs.lemmas.List.{length-set, set_past}
use Rattle.std.proofs.lemmas.List.Elements.{filter_agree}
use Rattle.std.proofs.Math.Bool.{or_self_left}
use Rattle.exam_lists.proofs.Booleans.{or_middle}
use Rattle.exam_lists.proofs.Above.{Above, above_cons, above_less, above_tail}
use Rattle.exam_model.specs.Changes.{with_student, without_student, with_pair, without_pair, exams_sat}
use Rattle.exam_model.specs.Enrolments.{Enrolled, IsAscending, has_number, students, has}
use Rattle.exam_model.specs.StudentLists.{Enters, Leaves}
use Rattle.exam_model.proofs.SameSet.{same_list, tail_ascends}

-- the student is less than the first, equal to the first, or greater than the first
pub with_cases : (s u : ℕ) (us : List ℕ) (P : List ℕ → Type 0) →
    (s < u → P (s ∷ u ∷ us)) → (s ≡ u → P (u ∷ us)) → (u < s → P (u ∷ with_student s us)) →
    P (with_student s (u ∷ us))
with_cases s u us P before same after =
    grind (arith, eqb-false, eqb-true, ltb-false, ltb-true)

-- the student is a member, and the old members stay
pub has-with : (s : ℕ) (xs : List ℕ) (t : ℕ) →
    has_number (with_student s xs) t ≡ ((s == t) || has_number xs t)
has-with s [] t = refl
has-with s (u ∷ us) t =
    grind (arith, has-with s us t, or_middle, or_self_left, with_cases)

-- a fact about the student and about each member holds for all
pub each_with : (P : ℕ → Type 0) (s : ℕ) (xs : List ℕ) → P s → AllByRecursion P xs →
    AllByRecursion P (with_student s xs)
each_with P s [] own each = (own, tt)
each_with P s (u ∷ us) own each =
    grind (arith, each_with P s us own each.1, with_cases)

above_with : (x s : ℕ) (ys : List ℕ) → x < s → Above x ys → Above x (with_student s ys)
above_with x s [] lt above = above_cons x s [] lt above
above_with x s (u ∷ us) lt above =
    let first = above 0 (omega arith) in
    let others = above_with x s us lt (above_tail x u us above) in
    with_cases s u us (Above x)
    (λ before. above_cons x s (u ∷ us) lt above)
    (λ same. above)
    (λ after. above_cons x u (with_student s us) first others)

pub ascending_cons : (x : ℕ) (xs : List ℕ) → Above x xs → IsAscending xs → IsAscending (x ∷ xs)
ascending_cons x xs above up i zero lt within = absurd (omega arith)
ascending_cons x xs above up zero (suc j) lt within = above j (omega arith)
ascending_cons x xs above up (suc i) (suc j) lt within = up i j (omega arith) (omega arith)

pub above_first : (x : ℕ) (xs : List ℕ) → IsAscending (x ∷ xs) → Above x xs
above_first x xs up k within = up 0 (suc k) (omega arith) (omega arith)

pub ascending-none : IsAscending []
ascending-none i j lt within = absurd (omega arith)

-- the list stays ascending
pub ascending-with : (s : ℕ) (xs : List ℕ) → IsAscending xs → IsAscending (with_student s xs)
ascending-with s [] up = ascending_cons s [] (λ k within. absurd (omega arith)) up
ascending-with s (u ∷ us) up =
    let above = above_first u us up in
    let others = ascending-with s us (tail_ascends u us up) in
    with_cases s u us IsAscending
    (λ before.
    ascending_cons s (u ∷ us) (above_cons s u us before (above_less s u us before above)) up)
    (λ same. up)
    (λ after. ascending_cons u (with_student s us) (above_with u s us after above) others)

-- without a student, the others are members as before
pub has-without : (s : ℕ) (xs : List ℕ) (t : ℕ) →
    has_number (without_student s xs) t ≡ (not (s == t) && has_number xs t)
has-without s [] t = elim (s == t) as (λ b. false ≡ (not b && false)) [ true ↦ refl | false ↦ refl ]
has-without s (u ∷ us) t = elim (cases_eq u s) [
  | inl same ↦ rw (same, eq-eqb s s refl) (has-without s us t ∙ first_is_she)
  | inr other ↦
      rw (ne_eqb u s other) (ap (λ b. (u == t) || b) (has-without s us t) ∙ first_is_other other)
]
  where
    first_is_she : (not (s == t) && has_number us t)
        ≡ (not (s == t) && ((s == t) || has_number us t))
    first_is_she = grind (arith, common_steps)

    first_is_other : (u ≡ s → ⊥) → ((u == t) || (not (s == t) && has_number us t))
        ≡ (not (s == t) && ((u == t) || has_number us t))
    first_is_other other = elim (cases_eq u t) [
      | inl is ↦ rw (← is, eq-eqb u u refl, ne_eqb s u (λ q. other (sym q))) refl
      | inr isnt ↦ rw (ne_eqb u t isnt) refl
    ]

above_without : (x s : ℕ) (ys : List ℕ) → Above x ys → Above x (without_student s ys)
above_without x s [] above = above
above_without x s (u ∷ us) above =
    let others = above_without x s us (above_tail x u us above) in
    elim (u == s)
    as (λ b. Above x (if not b then u ∷ without_student s us else without_student s us)) [
      | true ↦ others
      | false ↦ above_cons x u (without_student s us) (above 0 (omega arith)) others
    ]

-- the list stays ascending
pub ascending-without : (s : ℕ) (xs : List ℕ) → IsAscending xs → IsAscending (without_student s xs)
ascending-without s [] up = up
ascending-without s (u ∷ us) up =
    let others = ascending-without s us (tail_ascends u us up) in
    elim (u == s)
    as (λ b. IsAscending (if not b then u ∷ without_student s us else without_student s us)) [
      | true ↦ others
      | false ↦ ascending_cons u (without_student s us)
          (above_without u s us (above_first u us up)) others
    ]

-- the list that the student has entered, and the one that they have left
pub entered : (s : ℕ) (old new : List ℕ) → IsAscending old → Enters old new s
    → new ≡ with_student s old
entered s old new up enters = grind (arith, ascending-with, has-with, same_list)

pub left : (s : ℕ) (old new : List ℕ) → IsAscending old → Leaves old new s
    → new ≡ without_student s old
left s old new up leaves = grind (arith, ascending-without, has-without, same_list)

-- if a new list of an exam has a student as before, the student sits each exam as before
has_in : (E : Enrolled) (e t : ℕ) (new : List ℕ) → has_number new t ≡ has_number (students E e) t →
    (f : ℕ) → has (set E e new) t f ≡ has E t f
has_in E e t new same f = elim (cases_lt e (length E)) [
  | inl lt ↦ elim (cases_eq f e) [
    | inl here ↦ rw (here, get_or-set_same E e new [] lt) same
    | inr other ↦ rw (get_or-set_other E e f new [] other) refl
  ]
  | inr past ↦ rw (set_past E e new past) refl
]

-- the student then sits the same exams
sat_in : (E : Enrolled) (e t : ℕ) (new : List ℕ) → has_number new t ≡ has_number (students E e) t →
    exams_sat (set E e new) t ≡ exams_sat E t
sat_in E e t new same = grind (arith, filter_agree, has_in, length-set)

pub with_others : (E : Enrolled) (s e t : ℕ) → t ≢ s → exams_sat (with_pair E s e) t ≡ exams_sat E t
with_others E s e t other = grind (arith, has-with, ne_eqb, sat_in)

pub without_others : (E : Enrolled) (s e t : ℕ) → t ≢ s
    → exams_sat (without_pair E s e) t ≡ exams_sat E t
without_others E s e t other = grind (arith, has-without, ne_eqb, sat_in)
