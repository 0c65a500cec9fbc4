-- Ascending lists with the same members are equal.
use Rattle.std.proofs.Common.{◌≡◌, ℕ, suc, ◌<◌, true, false, List, [], ◌∷◌, length, refl, ap, sym, ◌∙◌, inl, inr, arith, subst, rules}
use mathlib.Core.Bool.{true≢false}
use Rattle.std.proofs.lemmas.Bool.{eq-eqb, ne_eqb, cases_order}
use Rattle.exam_model.specs.Enrolments.{Enrolled, IsAscending, has_number, students, has}
use Rattle.exam_model.proofs.RollLemmas.{rise, has_gap}

pub tail_ascends : (x : ℕ) (xs : List ℕ) → IsAscending (x ∷ xs) → IsAscending xs
tail_ascends x xs up i j lt within = up (suc i) (suc j) (omega arith) (omega arith)

-- a number below the first is no member
below_first : (x y : ℕ) (ys : List ℕ) → IsAscending (y ∷ ys) → x < y → has_number (y ∷ ys) x
    ≡ false
below_first x y ys up lt = has_gap (y ∷ ys) x 0 (record {
  within = omega arith;
  before = λ k k_lt. absurd (omega arith);
  after = λ k le within. omega (arith, rise (y ∷ ys) up 0 k le within);
})

-- the first is not among the others
pub first_once : (x : ℕ) (xs : List ℕ) → IsAscending (x ∷ xs) → has_number xs x ≡ false
first_once x [] up = refl
first_once x (y ∷ ys) up =
    below_first x y ys (tail_ascends x (y ∷ ys) up) (up 0 1 (omega arith) (omega arith))

has_first : (x : ℕ) (xs : List ℕ) → has_number (x ∷ xs) x ≡ true
has_first x xs = rw (eq-eqb x x refl) refl

same_heads : (x y : ℕ) (xs ys : List ℕ) → IsAscending (x ∷ xs) → IsAscending (y ∷ ys)
    → ((t : ℕ) → has_number (x ∷ xs) t ≡ has_number (y ∷ ys) t) → x ≡ y
same_heads x y xs ys up up' same =
    elim (cases_order x y) [
      | inl e ↦ e
      | inr (inl less) ↦ absurd (true≢false
          (sym (has_first x xs) ∙ same x ∙ below_first x y ys up' less))
      | inr (inr more) ↦ absurd (true≢false
          (sym (has_first y ys) ∙ sym (same y) ∙ below_first y x xs up more))
    ]

same_tails : (x : ℕ) (xs ys : List ℕ) → IsAscending (x ∷ xs) → IsAscending (x ∷ ys)
    → ((t : ℕ) → has_number (x ∷ xs) t ≡ has_number (x ∷ ys) t) → (t : ℕ) → has_number xs t
    ≡ has_number ys t
same_tails x xs ys up up' same t = search (rules, cases_order, first_once, ne_eqb)

pub same_list : (xs ys : List ℕ) → IsAscending xs → IsAscending ys
    → ((t : ℕ) → has_number xs t ≡ has_number ys t) → xs ≡ ys
same_list [] [] up up' same = refl
same_list [] (y ∷ ys) up up' same = absurd (true≢false (sym (has_first y ys) ∙ sym (same y)))
same_list (x ∷ xs) [] up up' same = absurd (true≢false (sym (has_first x xs) ∙ same x))
same_list (x ∷ xs) (y ∷ ys) up up' same =
    let head = same_heads x y xs ys up up' same in
    let up2 : IsAscending (x ∷ ys) = subst (λ z. IsAscending (z ∷ ys)) (sym head) up' in
    let same2 : (t : ℕ) → has_number (x ∷ xs) t ≡ has_number (x ∷ ys) t
    = subst (λ z. (t : ℕ) → has_number (x ∷ xs) t ≡ has_number (z ∷ ys) t) (sym head) same in
    let tails = same_list xs ys (tail_ascends x xs up) (tail_ascends x ys up2)
    (same_tails x xs ys up up2 same2) in
    ap (λ (zs : List ℕ). x ∷ zs) tails ∙ ap (λ (z : ℕ). z ∷ ys) head

-- equal numbers of exams and the same pairs: the same set
pub same_set : (E F : Enrolled) → length E ≡ length F
    → ((e : ℕ) → e < length E → IsAscending (students E e))
    → ((e : ℕ) → e < length F → IsAscending (students F e)) → ((s e : ℕ) → has E s e ≡ has F s e)
    → E ≡ F
same_set [] [] len up up' same = refl
same_set [] (y ∷ ys) len up up' same = absurd (omega arith)
same_set (x ∷ xs) [] len up up' same = absurd (omega arith)
same_set (x ∷ xs) (y ∷ ys) len up up' same =
    let head = same_list x y (up 0 (omega arith)) (up' 0 (omega arith)) (λ t. same t 0) in
    let tails = same_set xs ys (omega arith) (λ e lt. up (suc e) (omega arith))
    (λ e lt. up' (suc e) (omega arith)) (λ s e. same s (suc e)) in
    ap (λ (zs : List (List ℕ)). x ∷ zs) tails ∙ ap (λ (z : List ℕ). z ∷ ys) head
