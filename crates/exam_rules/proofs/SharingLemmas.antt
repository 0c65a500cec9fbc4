-- The students whom two exams share, in either order of the exams.
use Rattle.std.proofs.lemmas.Grind.{common_steps}
use Rattle.std.specs.List.{list_any}
use Rattle.std.proofs.Common.{◌≡◌, ℕ, true, ◌==◌, List, sym, ◌∙◌, eq-eqb, eqb-true, arith}
use Rattle.std.proofs.lemmas.List.Folds.{Any-from_list_any, list_any_at}
use Rattle.exam_lists.proofs.Booleans.{same_tests}
use Rattle.exam_lists.proofs.Counts.{count_by_any}
use Rattle.exam_model.specs.Enrolments.{Enrolled, students, has, has_number}
use Rattle.exam_rules.specs.Places.{share_student}

-- a common element of two lists is common in either order
any_turned : (xs ys : List ℕ) → list_any (λ s. has_number ys s) xs ≡ true
    → list_any (λ s. has_number xs s) ys ≡ true
any_turned xs ys h = grind (arith, common_steps, Any-from_list_any, eq-eqb, eqb-true, list_any_at)

pub share_turned : (E : Enrolled) (e f : ℕ) → share_student E e f ≡ share_student E f e
share_turned E e f =
    count_by_any (λ s. has E s f) (students E e)
    ∙ same_tests (list_any (λ s. has E s f) (students E e))
    (list_any (λ s. has E s e) (students E f))
    (any_turned (students E e) (students E f)) (any_turned (students E f) (students E e))
    ∙ sym (count_by_any (λ s. has E s e) (students E f))
