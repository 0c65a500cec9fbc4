-- What stays true of the lists and the count of pairs if the list of one exam changes.
use Rattle.std.proofs.lemmas.Grind.{common_steps}
use Rattle.std.proofs.Common.{◌≡◌, ◌∙◌, ℕ, ◌+◌, ◌-◌, ◌<◌, ◌≤◌, true, false, List, [], length, set, sym, ap, subst, arith, slice_index_or, Fits, w32}
use Rattle.std.proofs.lemmas.List.{get_or_read, set-get_or}
use Rattle.exam_model.specs.Enrolments.{Enrolled, AreEnrolments, AreNumbers, IsAscending, Adds, Removes, students, has, has_number, pair_count}
use Rattle.exam_model.specs.StudentLists.{Enters, Leaves}
use Rattle.exam_model.specs.Changes.{with_pair, without_pair}
use Rattle.exam_model.proofs.StudentLemmas.{entered, left}
use Rattle.exam_model.proofs.EnrolmentLemmas.{adds_set, enrolments_set, removes_set, enrolments_left}
use Rattle.exam_model.proofs.EnrolLemmas.{pair_count-enrol, enrolments_enrol}

-- the invariant of the type
abbrev pub IsCounted : Enrolled → ℕ → Type 0
IsCounted E p = AreEnrolments E × (p ≡ pair_count E)

-- an exam of the view is one of the stored lists
pub exam_within : {E T : Enrolled} {e f : ℕ} → E ≡ T → e ≡ f → f < length T → e < length E
exam_within view is lt = rw (view, is) lt

-- storing a list where it was changes nothing
pub set_again : (E : Enrolled) (e : ℕ) (roll : List ℕ) → e < length E
    → roll ≡ slice_index_or E e roll → set E e roll ≡ E
set_again E e roll lt is = ap (set E e) (get_or_read E e roll lt is []) ∙ set-get_or E e []

pub counted_again : (E : Enrolled) (e p : ℕ) (roll : List ℕ) → e < length E
    → roll ≡ slice_index_or E e roll → IsCounted E p → IsCounted (set E e roll) p
counted_again E e p roll lt is was =
    subst (λ (F : Enrolled). IsCounted F p) (sym (set_again E e roll lt is)) was

-- the count plus one fits its type
pub one_more_fits : (E : Enrolled) (p : ℕ) → IsCounted E p → Fits w32 (p + 1)
one_more_fits E p was = let count : p ≡ pair_count E = was.1 in omega (arith, was.0.pairs)

-- a student is in the exam's list exactly if the pair is in the set
pub is_has : (E : Enrolled) (e s : ℕ) (roll : List ℕ) → e < length E
    → roll ≡ slice_index_or E e roll → has_number roll s ≡ has E s e
is_has E e s roll lt is =
    ap (λ (r : List ℕ). has_number r s) (get_or_read E e roll lt is [])

-- a new pair is refused if the set is full
pub full_refuses : (E : Enrolled) (e s p : ℕ) (roll : List ℕ) → e < length E
    → roll ≡ slice_index_or E e roll → false ≡ has_number roll s → 200000 ≤ p → IsCounted E p
    → (e < length E) × (has E s e ≡ false) × (pair_count E ≡ 200000)
full_refuses E e s p roll lt is absent full was = grind (arith, is_has)

-- a student added to the exam's list is a pair added
pub adds_entered : (E : Enrolled) (e s : ℕ) (roll new : List ℕ) → e < length E
    → roll ≡ slice_index_or E e roll → Enters roll new s → Adds E (set E e new) s e
adds_entered E e s roll new lt is enters = grind (arith, common_steps, adds_set, get_or_read)

pub pair_entered : (E : Enrolled) (e s p : ℕ) (roll new : List ℕ) → e < length E
    → roll ≡ slice_index_or E e roll → Enters roll new s → IsCounted E p
    → set E e new ≡ with_pair E s e
pair_entered E e s p roll new lt is enters was = grind (arith, entered, get_or_read)

-- the count rises by one for a new student, and stays for one who was there
pub counted_new : (E : Enrolled) (e s p : ℕ) (roll new : List ℕ) → e < length E
    → s ≤ 999999999 → roll ≡ slice_index_or E e roll → Enters roll new s → has_number roll s ≡ false
    → p < 200000 → IsCounted E p → IsCounted (set E e new) (p + 1)
counted_new E e s p roll new lt known is enters absent room was =
    let here = subst (λ (r : List ℕ). Enters r new s) (get_or_read E e roll lt is []) enters in
    let none = sym (is_has E e s roll lt is) ∙ absent in
    let count : p ≡ pair_count E = was.1 in
    let more = rw none at ((adds_set E e s new lt here).pairs) in
    (enrolments_set E e s new lt known here (λ x. omega arith) was.0, omega arith)

pub counted_old : (E : Enrolled) (e s p : ℕ) (roll new : List ℕ) → e < length E
    → s ≤ 999999999 → roll ≡ slice_index_or E e roll → Enters roll new s → has_number roll s ≡ true
    → IsCounted E p → IsCounted (set E e new) p
counted_old E e s p roll new lt known is enters present was =
    let here = subst (λ (r : List ℕ). Enters r new s) (get_or_read E e roll lt is []) enters in
    let there : has E s e ≡ true = sym (is_has E e s roll lt is) ∙ present in
    let same = rw there at ((adds_set E e s new lt here).pairs) in
    (enrolments_set E e s new lt known here (λ x. absurd (cc)) was.0, was.1 ∙ sym same)

-- a student removed from the exam's list is a pair removed
pub removes_left : (E : Enrolled) (e s : ℕ) (roll new : List ℕ) → e < length E
    → roll ≡ slice_index_or E e roll → Leaves roll new s → Removes E (set E e new) s e
removes_left E e s roll new lt is leaves = grind (arith, common_steps, get_or_read, removes_set)

pub pair_left : (E : Enrolled) (e s : ℕ) (roll new : List ℕ) → e < length E
    → roll ≡ slice_index_or E e roll → Leaves roll new s → AreEnrolments E
    → set E e new ≡ without_pair E s e
pair_left E e s roll new lt is leaves was =
    ap (set E e) (left s (students E e) new (was.ascending e lt)
    (subst (λ (r : List ℕ). Leaves r new s) (get_or_read E e roll lt is []) leaves))

pub kept_left : (E : Enrolled) (e s : ℕ) (roll new : List ℕ) → e < length E
    → roll ≡ slice_index_or E e roll → Leaves roll new s → AreEnrolments E
    → AreEnrolments (set E e new)
kept_left E e s roll new lt is leaves was =
    enrolments_left E e s new lt
    (subst (λ (r : List ℕ). Leaves r new s) (get_or_read E e roll lt is []) leaves) was

-- the count falls by one if a pair is removed
pub count_less : (E : Enrolled) (e s p : ℕ) (roll new : List ℕ) → e < length E
    → roll ≡ slice_index_or E e roll → Leaves roll new s → has_number roll s ≡ true
    → p ≡ pair_count E → p ≡ pair_count (set E e new) + 1
count_less E e s p roll new lt is leaves present was =
    grind (arith, common_steps, is_has, removes_left)

pub count_same : (E : Enrolled) (e s p : ℕ) (roll new : List ℕ) → e < length E
    → roll ≡ slice_index_or E e roll → Leaves roll new s → has_number roll s ≡ false
    → p ≡ pair_count E → p ≡ pair_count (set E e new)
count_same E e s p roll new lt is leaves absent was =
    grind (arith, common_steps, is_has, removes_left)

-- students put into an empty exam add as many pairs
pub counted_filled : (E : Enrolled) (e p : ℕ) (xs : List ℕ) → e < length E → students E e ≡ []
    → IsAscending xs → AreNumbers xs → length xs ≤ 200000 - p → IsCounted E p
    → IsCounted (set E e xs) (p + length xs)
counted_filled E e p xs lt none up known fits was =
    grind (arith, common_steps, enrolments_enrol, pair_count-enrol)

-- more students than there is room for are refused, and the number of those there is room for fits
pub more_refuse : (E : Enrolled) (p n : ℕ) → 200000 - p < n → IsCounted E p
    → 200000 < pair_count E + n
more_refuse E p n more was = let count : p ≡ pair_count E = was.1 in omega (arith, was.0.pairs)

pub filled_fits : (p n : ℕ) → n ≤ 200000 - p → p ≤ 200000 → Fits w32 n × Fits w32 (p + n)
filled_fits p n room few = (omega arith, omega arith)

-- the list of an exam that has no students is empty
pub none_at : (E : Enrolled) (e : ℕ) (roll : List ℕ) → e < length E
    → roll ≡ slice_index_or E e roll → students E e ≡ [] → roll ≡ []
none_at E e roll lt is none = get_or_read E e roll lt is [] ∙ none
