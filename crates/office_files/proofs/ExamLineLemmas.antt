-- The ascending list after students are added.
use Rattle.std.proofs.lemmas.Grind.{common_steps}
use Rattle.std.proofs.Common.{◌≡◌, ℕ, zero, suc, ◌+◌, ◌<◌, ◌≤◌, true, false, rules}
use Rattle.std.proofs.Common.{List, [], ◌∷◌, length}
use Rattle.std.proofs.Common.{add-one, refl, ap, sym, ◌∙◌, inl, inr, arith}
use Rattle.std.specs.Prelude.{◌==◌, ◌||◌, nat_eq, slice_index}
use Rattle.std.specs.List.{dedup}
use Rattle.std.specs.List.Sorted.{IsPermutation, IsSorted, IsStrictlyIncreasing}
use Rattle.std.specs.Ordering.{nat_cmp}
use Rattle.std.proofs.lemmas.Bool.{eqb-true, eqb-false, or_parts, cases_lt}
use Rattle.std.proofs.lemmas.List.Sorted.{list_any-IsPermutation}
use Rattle.std.proofs.lemmas.Map.Keys.{IsStrictlyIncreasing-dedup}
use Rattle.std.proofs.Math.Bool.{or_self_left, or-false, or_assoc}
use Rattle.exam_lists.proofs.Booleans.{or_middle}
use Rattle.exam_model.specs.Enrolments.{IsAscending, has_number}
use Rattle.exam_model.specs.Changes.{with_student}
use Rattle.exam_model.proofs.SameSet.{same_list}
use Rattle.exam_model.proofs.StudentLemmas.{with_cases, has-with, ascending-none, ascending-with}
use Rattle.office_files.specs.ExamStudents.{with_students}

-- the list gets longer by at most one
pub length-with : (s : ℕ) (xs : List ℕ) →
    (length xs ≤ length (with_student s xs)) × (length (with_student s xs) ≤ length xs + 1)
length-with s [] = (omega arith, omega arith)
length-with s (u ∷ us) = grind (arith, common_steps, length-with s us, with_cases)

-- a new student makes it longer by one
pub length-with_new : (s : ℕ) (xs : List ℕ) → has_number xs s ≡ false →
    length (with_student s xs) ≡ length xs + 1
length-with_new s [] new = omega arith
length-with_new s (u ∷ us) new =
    let parts = or_parts (u == s) (has_number us s) new in
    let one = length-with_new s us parts.1 in
    let other = eqb-false u s parts.0 in
    with_cases s u us (λ ys. length ys ≡ length (u ∷ us) + 1)
    (λ before. omega arith)
    (λ same. absurd (other (sym same)))
    (λ after. omega arith)

-- a student who is there changes nothing
pub with_again : (s : ℕ) (xs : List ℕ) → IsAscending xs → has_number xs s ≡ true →
    with_student s xs ≡ xs
with_again s xs up there =
    grind (arith, common_steps, ascending-with, eqb-true, has-with, same_list)

pub ascending-students : (ss seen : List ℕ) → IsAscending seen →
    IsAscending (with_students ss seen)
ascending-students [] seen up = up
ascending-students (s ∷ ss) seen up =
    ascending-students ss (with_student s seen) (ascending-with s seen up)

pub has-students : (ss seen : List ℕ) (t : ℕ) →
    has_number (with_students ss seen) t ≡ (has_number ss t || has_number seen t)
has-students [] seen t = refl
has-students (s ∷ ss) seen t =
    search (rules, has-students ss (with_student s seen) t, has-with, or_assoc, or_middle)

pub length-students : (ss seen : List ℕ) → length seen ≤ length (with_students ss seen)
length-students [] seen = omega arith
length-students (s ∷ ss) seen =
    grind (arith, common_steps, length-students ss (with_student s seen), length-with)

-- the ascending list of the same students is the list of the students added one by one
pub students-same : (names xs : List ℕ) → IsAscending xs →
    ((t : ℕ) → has_number xs t ≡ has_number names t) → xs ≡ with_students names []
students-same names xs up same =
    search (rules, ascending-none, ascending-students, has-students, or-false, same_list)

-- students in ascending order are that list
pub students-ascending : (names : List ℕ) → IsAscending names → names ≡ with_students names []
students-ascending names up = students-same names names up (λ t. refl)

-- an ascending list of numbers below the least that may follow
pub record IsUpTo (xs : List ℕ) (least : ℕ) : Type 0 where
  pub ascending : IsAscending xs
  pub below : (k : ℕ) → k < length xs → slice_index xs k < least

-- numbers each below the next are ascending
ascending-increasing : (xs : List ℕ) → IsStrictlyIncreasing xs → IsAscending xs
ascending-increasing xs up i zero lt within = absurd (omega arith)
ascending-increasing xs up i (suc j) lt within =
    let next : slice_index xs j < slice_index xs (suc j) = rw add-one at (up j (omega arith)) in
    elim (cases_lt i j) as (λ _. slice_index xs i < slice_index xs (suc j)) [
      | inl less ↦ omega (arith, ascending-increasing xs up i j less (omega arith))
      | inr same ↦ let is : i ≡ j = omega arith in rw is next
    ]

-- a sorted list without its repeats has the same members
has-dedup : (xs : List ℕ) (t : ℕ) → has_number (dedup nat_eq xs) t ≡ has_number xs t
has-dedup [] t = refl
has-dedup (x ∷ xs) t = from x xs
  where
    from : (x : ℕ) (xs : List ℕ) → has_number (dedup nat_eq (x ∷ xs)) t ≡ has_number (x ∷ xs) t
    from x [] = refl
    from x (y ∷ ys) = grind (arith, common_steps, from x ys, from y ys, eqb-true, or_self_left)

-- sorted students, each kept once, are the list of the students added one by one
pub students-sorted : (names sorted kept : List ℕ) → IsPermutation names sorted →
    IsSorted nat_cmp sorted → kept ≡ dedup nat_eq sorted →
    (kept ≡ with_students names []) × IsAscending kept
students-sorted names sorted kept moved up is =
    let rises : IsAscending kept =
    rw is (ascending-increasing (dedup nat_eq sorted) (IsStrictlyIncreasing-dedup sorted up)) in (
      students-same names kept rises (λ t.
          ap (λ (xs : List ℕ). has_number xs t) is
          ∙ has-dedup sorted t
          ∙ sym (list_any-IsPermutation (λ (x : ℕ). x == t) names sorted moved)),
      rises,
    )
