-- The lists of students after a change, and those of no pairs.
use mathlib.Core.Bool.{true≢false}
use Rattle.std.proofs.Common.{◌≡◌, ◌∙◌, eqb, ℕ, zero, suc, ◌+◌, ◌<◌, ◌≤◌, true, false, List, [], length, set, refl, sym, inl, inr, arith, if◌then◌else◌}
use Rattle.std.specs.Prelude.{◌==◌, ◌||◌, ◌&&◌, not, replicate}
use Rattle.std.proofs.lemmas.Bool.{eq-eqb, ne_eqb, cases_eq, and_parts}
use Rattle.std.proofs.lemmas.List.{length-set, length-replicate}
use Rattle.std.proofs.lemmas.List.Folds.{sum_by-replicate}
use Rattle.std.proofs.lemmas.List.Sums.{sum_by-set, get_or-le-sum_by}
use Rattle.std.proofs.Common.{get_or-set_other, get_or-set_same}
use Rattle.std.proofs.Math.Bool.{and-false, and-true}
use Rattle.exam_model.specs.Enrolments.{Enrolled, AreEnrolments, AreNumbers, has_number, Adds, Removes, students, has, size_of, pair_count, no_pairs}
use Rattle.exam_model.specs.StudentLists.{Enters, Leaves}

-- no exam has more students than there are pairs
pub size-le : (E : Enrolled) (e : ℕ) → e < length E → size_of E e ≤ pair_count E
size-le E e lt = get_or-le-sum_by length E e [] lt

students-none : (n e : ℕ) → students (replicate n []) e ≡ []
students-none zero e = refl
students-none (suc n) zero = refl
students-none (suc n) (suc e) = students-none n e

pub pair_count-none : (n : ℕ) → pair_count (replicate n []) ≡ 0
pair_count-none n = let sums = sum_by-replicate {X = List ℕ} length n [] in omega arith

-- the empty set of pairs satisfies the invariant
pub enrolments_none : (n : ℕ) → 1 ≤ n → n ≤ 2000 → AreEnrolments (no_pairs n)
enrolments_none n low high = record {
  exams = omega (arith, length-replicate {A = List ℕ} n []);
  ascending = λ e lt. rw (students-none n e) (λ i j below within. absurd (omega arith));
  pairs = omega (arith, pair_count-none n);
  numbers = λ e. rw (students-none n e) (λ s is. absurd (true≢false (sym is)));
}

-- the number of pairs after one exam's list is replaced
count_set : (E : Enrolled) (e s : ℕ) (new : List ℕ) → e < length E → Enters (students E e) new s
    → pair_count (set E e new) ≡ (if has E s e then pair_count E else pair_count E + 1)
count_set E e s new lt enters = grind (arith, sum_by-set)

-- a student added to one exam's list is a pair added
pub adds_set : (E : Enrolled) (e s : ℕ) (new : List ℕ) → e < length E → Enters (students E e) new s
    → Adds E (set E e new) s e
adds_set E e s new lt enters = record {
  members = λ t f. elim (cases_eq e f) [
    | inl same ↦ members_here t f same
    | inr other ↦ members_there t f other
  ];
  exams = length-set E e new;
  pairs = count_set E e s new lt enters;
} where
  members_here : (t f : ℕ) → e ≡ f → has (set E e new) t f ≡ (((s == t) && (e == f)) || has E t f)
  members_here t f same = grind (arith, and-true, eq-eqb, get_or-set_same)

  members_there : (t f : ℕ) → (e ≡ f → ⊥) → has (set E e new) t f
      ≡ (((s == t) && (e == f)) || has E t f)
  members_there t f other = grind (arith, and-false, get_or-set_other, ne_eqb)

-- all numbers are in their range after one was added
numbers_entered : (old new : List ℕ) (s : ℕ) → s ≤ 999999999 → Enters old new s → AreNumbers old
    → AreNumbers new
numbers_entered old new s known enters was t is = grind (arith, cases_eq, ne_eqb)

numbers_left : (old new : List ℕ) (s : ℕ) → Leaves old new s → AreNumbers old → AreNumbers new
numbers_left old new s leaves was t is =
    was t (and_parts (not (eqb s t)) (has_number old t) (sym (leaves.members t) ∙ is)).1

-- the invariant of the type holds after it, if there is room for a new pair
pub enrolments_set : (E : Enrolled) (e s : ℕ) (new : List ℕ) → e < length E → s ≤ 999999999
    → Enters (students E e) new s → (has E s e ≡ false → pair_count E < 200000) → AreEnrolments E
    → AreEnrolments (set E e new)
enrolments_set E e s new lt known enters room was = record {
  exams = omega (arith, length-set E e new, was.exams);
  ascending = λ f within. elim (cases_eq f e) [
    | inl same ↦ rw same (rw (get_or-set_same E e new [] lt) enters.ascending)
    | inr other ↦ rw (get_or-set_other E e f new [] other)
        (was.ascending f (omega (arith, length-set E e new)))
  ];
  pairs = fits;
  numbers = λ f. elim (cases_eq f e) [
    | inl same ↦
        rw same (rw (get_or-set_same E e new [] lt)
        (numbers_entered _ new s known enters (was.numbers e)))
    | inr other ↦ rw (get_or-set_other E e f new [] other) (was.numbers f)
  ];
} where
  fits : pair_count (set E e new) ≤ 200000
  fits = elim (has E s e) as (λ b. has E s e ≡ b → pair_count (set E e new) ≤ 200000) [
    | true ↦ λ e'. let same = rw e' at (count_set E e s new lt enters) in omega (arith, was.pairs)
    | false ↦ λ e'. let more = rw e' at (count_set E e s new lt enters) in omega (arith, room e')
  ] refl

-- a student removed from one exam's list is a pair removed
pub removes_set : (E : Enrolled) (e s : ℕ) (new : List ℕ) → e < length E
    → Leaves (students E e) new s → Removes E (set E e new) s e
removes_set E e s new lt leaves = record {
  members = λ t f. elim (cases_eq e f) [
    | inl same ↦ members_here t f same
    | inr other ↦ members_there t f other
  ];
  exams = length-set E e new;
  pairs = pairs_left;
} where
  members_here : (t f : ℕ) → e ≡ f
      → has (set E e new) t f ≡ (not ((s == t) && (e == f)) && has E t f)
  members_here t f same = grind (arith, and-true, eq-eqb, get_or-set_same)

  members_there : (t f : ℕ) → (e ≡ f → ⊥)
      → has (set E e new) t f ≡ (not ((s == t) && (e == f)) && has E t f)
  members_there t f other = grind (arith, and-false, get_or-set_other, ne_eqb)

  pairs_left : pair_count E
      ≡ (if has E s e then pair_count (set E e new) + 1 else pair_count (set E e new))
  pairs_left = grind (arith, sum_by-set)

-- the invariant of the type holds after it
pub enrolments_left : (E : Enrolled) (e s : ℕ) (new : List ℕ) → e < length E
    → Leaves (students E e) new s → AreEnrolments E → AreEnrolments (set E e new)
enrolments_left E e s new lt leaves was = record {
  exams = omega (arith, length-set E e new, was.exams);
  ascending = λ f within. elim (cases_eq f e) [
    | inl same ↦ rw same (rw (get_or-set_same E e new [] lt) leaves.ascending)
    | inr other ↦ rw (get_or-set_other E e f new [] other)
        (was.ascending f (omega (arith, length-set E e new)))
  ];
  pairs = elim (has E s e) as (λ b. has E s e ≡ b → pair_count (set E e new) ≤ 200000) [
    | true ↦ λ is. let left = rw is at (removes_set E e s new lt leaves).pairs in
        omega (arith, was.pairs)
    | false ↦ λ is. let left = rw is at (removes_set E e s new lt leaves).pairs in
        omega (arith, was.pairs)
  ] refl;
  numbers = λ f. elim (cases_eq f e) [
    | inl same ↦
        rw same (rw (get_or-set_same E e new [] lt) (numbers_left _ new s leaves (was.numbers e)))
    | inr other ↦ rw (get_or-set_other E e f new [] other) (was.numbers f)
  ];
}

pub ruleset size_facts = (size-le)
