-- Ascending lists of numbers, chains, and lists in order.
use Rattle.std.proofs.lemmas.Grind.{common_steps}
use Rattle.std.specs.List.{AllByRecursion, dedup}
use Rattle.std.proofs.Common.{◌≡◌, ℕ, suc, ◌<◌, Bool, true, false, cond, ◌&&◌, ◌||◌, eqb, List, [], ◌∷◌, length, filter, get_or, AllPairs, All, Contains, refl, sym, ◌∙◌, ap, arith, eqb-true, nat_eq}
use Rattle.std.proofs.lemmas.List.Elements.{All-from_recursion, recursion_from_All}
use Rattle.std.proofs.lemmas.List.Folds.{Any-from_list_any, list_any_at}
use Rattle.std.proofs.lemmas.List.Kept.{AllPairs-cons, Contains-dedup_nat, Contains-from_dedup}
use Rattle.exam_lists.proofs.Chains.{IsChain, index_from_chain}
use Rattle.exam_lists.proofs.Booleans.{same_tests}
use Rattle.exam_model.specs.Enrolments.{IsAscending, has_number}
use Rattle.exam_model.proofs.SameSet.{same_list}
use Rattle.exam_model.proofs.StudentLemmas.{ascending-none, ascending-with, has-with}
use Rattle.exam_publish.specs.Changed.{sorted_numbers}

-- ---- chains

-- ---- tests of a whole list

any_cond : (b : Bool) (t x : ℕ) (xs : List ℕ)
    → has_number (cond b (x ∷ xs) xs) t ≡ ((b && (eqb x t)) || has_number xs t)
any_cond true t x xs = refl
any_cond false t x xs = refl

-- a number stays in a filtered list exactly if it passes
pub has_filter : (p : ℕ → Bool) (xs : List ℕ) (t : ℕ)
    → has_number (filter p xs) t ≡ (p t && has_number xs t)
has_filter p [] t = grind (arith, common_steps)
has_filter p (x ∷ xs) t = grind (arith, has_filter p xs t, any_cond, eqb-true)

-- ---- ascending lists

pub ascending_from_chain : (xs : List ℕ) → IsChain (λ x y. x < y) xs → IsAscending xs
ascending_from_chain xs h i j l m = index_from_chain (λ x y. x < y) xs h i j 0 l m

pub chain_from_ascending : (xs : List ℕ) → IsAscending xs → IsChain (λ x y. x < y) xs
chain_from_ascending [] h = tt
chain_from_ascending (x ∷ xs) h =
    (recursion_from_All (λ y. x < y) xs (above xs (λ j l. h 0 (suc j) (omega arith) (omega arith))), chain_from_ascending xs (λ i j l m. h (suc i) (suc j) (omega arith) (omega arith)))
  where
    above : (ys : List ℕ) → ((j : ℕ) → j < length ys → x < get_or ys j 0) → All (λ y. x < y) ys
    above [] k = λ i d l. absurd (omega arith)
    above (y ∷ ys) k =
        All-from_recursion (λ y. x < y) (y ∷ ys)
        (k 0 (omega arith), recursion_from_All (λ y. x < y) ys (above ys (λ j l. k (suc j) (omega arith))))

-- the numbers stay
pub has_ascending : (xs : List ℕ) (t : ℕ) → has_number (sorted_numbers xs) t ≡ has_number xs t
has_ascending [] t = refl
has_ascending (x ∷ xs) t = has-with x (sorted_numbers xs) t ∙ ap (λ b. eqb x t || b) (has_ascending xs t)

pub ascends : (xs : List ℕ) → IsAscending (sorted_numbers xs)
ascends [] = ascending-none
ascends (x ∷ xs) = ascending-with x (sorted_numbers xs) (ascends xs)

pub chain_ascending : (xs : List ℕ) → IsChain (λ x y. x < y) (sorted_numbers xs)
chain_ascending xs = chain_from_ascending (sorted_numbers xs) (ascends xs)

-- the one ascending list of these numbers
pub is_ascending : (xs ys : List ℕ) → IsAscending ys → ((t : ℕ) → has_number ys t ≡ has_number xs t)
    → ys ≡ sorted_numbers xs
is_ascending xs ys up same =
    same_list ys (sorted_numbers xs) up (ascends xs) (λ t. same t ∙ sym (has_ascending xs t))

-- a list without its repeats has the same numbers
pub has_dedup : (xs : List ℕ) (t : ℕ) → has_number (dedup nat_eq xs) t ≡ has_number xs t
has_dedup xs t =
    same_tests (has_number (dedup nat_eq xs) t) (has_number xs t)
    (λ h. moved (dedup nat_eq xs) xs (λ x there. Contains-from_dedup nat_eq xs x there) h)
    (λ h. moved xs (dedup nat_eq xs) (λ x there. Contains-dedup_nat xs x there) h)
  where
    moved : (xs ys : List ℕ) → ((x : ℕ) → Contains xs x → Contains ys x) → has_number xs t ≡ true
        → has_number ys t ≡ true
    moved xs ys keeps h =
        let any = Any-from_list_any (λ x. eqb x t) xs h in
        let there = keeps any.1 (any.0, any.2, any.3) in
        list_any_at (λ x. eqb x t) ys there.0 any.1 there.1 (ap (λ x. eqb x t) there.2 ∙ any.4)
