-- Whether any element of a list passes a test, for each way to make a list.
use Rattle.std.proofs.lemmas.Grind.{common_steps}
use Rattle.std.specs.List.{list_any, flat_map}
use Rattle.std.proofs.Common.{◌≡◌, ℕ, Bool, true, false, ◌&&◌, ◌==◌, List, [], ◌∷◌, map, Contains, refl, ◌∙◌, ap, eqb-true, eq-eqb, arith}
use Rattle.std.proofs.lemmas.Bool.{and_parts, and_from}
use Rattle.std.proofs.lemmas.List.Folds.{Any-from_list_any, list_any_at}
use Rattle.exam_lists.proofs.Tests.{any_map, any_agree, any_at, any_flat_map}
use Rattle.exam_rules.specs.Breach.{pair, is_pair}
use Rattle.exam_rules.specs.declared.exam_pair.ExamPair.{ExamPair}

-- ---- pairs of exams

is_itself : (e f : ℕ) → is_pair e f (pair e f) ≡ true
is_itself e f = and_from (e == e) (f == f) (eq-eqb e e refl) (eq-eqb f f refl)

pub any_from_contains : (e f : ℕ) (found : List ExamPair) → Contains found (pair e f)
    → list_any (is_pair e f) found ≡ true
any_from_contains e f found h =
    list_any_at (is_pair e f) found h.0 (pair e f) h.1 (ap (is_pair e f) h.2 ∙ is_itself e f)

same_as : (e f : ℕ) (p : ExamPair) → is_pair e f p ≡ true → p ≡ pair e f
same_as e f p h = grind (arith, common_steps, and_parts, eqb-true)

pub contains_from_any : (e f : ℕ) (found : List ExamPair) → list_any (is_pair e f) found ≡ true
    → Contains found (pair e f)
contains_from_any e f found h = grind (arith, common_steps, Any-from_list_any, same_as)

-- ---- lists of rows: for each exam of a list, its pairs with some others

any_row : (e f k : ℕ) (others : List ℕ)
    → list_any (is_pair e f) (map (pair k) others) ≡ ((k == e) && list_any (λ x. x == f) others)
any_row e f k others =
    any_map (is_pair e f) (pair k) others ∙ flip (k == e) others
  where
    flip : (c : Bool) (xs : List ℕ) → list_any (λ x. c && (x == f)) xs
        ≡ (c && list_any (λ x. x == f) xs)
    flip true xs = refl
    flip false [] = refl
    flip false (x ∷ xs) = flip false xs

pub any_rows : (e f : ℕ) (others : ℕ → List ℕ) (exams : List ℕ)
    → list_any (is_pair e f) (flat_map (λ k. map (pair k) (others k)) exams)
    ≡ (list_any (λ k. k == e) exams && list_any (λ x. x == f) (others e))
any_rows e f others exams =
    any_flat_map (is_pair e f) (λ k. map (pair k) (others k)) exams
    ∙ any_agree (λ k. list_any (is_pair e f) (map (pair k) (others k)))
    (λ k. (k == e) && list_any (λ x. x == f) (others k)) (λ k. any_row e f k (others k)) exams
    ∙ any_at e (λ k. list_any (λ x. x == f) (others k)) exams
