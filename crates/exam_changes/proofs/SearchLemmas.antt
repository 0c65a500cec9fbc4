-- A search for a breach in a list in order.
use Rattle.std.proofs.lemmas.Grind.{common_steps}
use Rattle.std.specs.Cmp.{IsTotalOrder, nat_cmp_total, on_total, then_total}
use Rattle.std.specs.List.{list_any}
use Rattle.std.specs.List.Sorted.{IsBinarySearchResult, IsSearchInRange, IsSortedBy, IsStrictlySortedBy}
use Rattle.std.specs.Ordering.{is_eq, is_lt, ordering_reverse}
use Rattle.std.specs.Prelude.{IsTrue, ◌↔◌, is_ok}
use Rattle.std.proofs.Common.{◌≡◌, ◌∙◌, ◌+◌, ◌∷◌, [], ℕ, zero, suc, Bool, true, false, Contains, List, Result, Ok, Err, ap, arith, filter, get_or, inl, inr, length, not, refl, sym, subst}
use Rattle.std.proofs.lemmas.Bool.{cases_lt}
use Rattle.std.proofs.lemmas.Bool.Decides.{nat_tests}
use Rattle.std.proofs.lemmas.List.Folds.{Any-from_list_any, list_any_at, list_any_none}
use Rattle.std.proofs.lemmas.List.Sorted.{searchable_from_sorted}
use Rattle.exam_rules.specs.Breach.{breach_cmp, rank_of}
use Rattle.exam_rules.specs.declared.breach.Breach.{Breach}
use Rattle.exam_changes.specs.Gained.{is_listed}
use Rattle.exam_rules.specs.declared.breach.BreachRule.{BreachRule}
use Rattle.exam_rules.specs.declared.breach.BreachRule.TheVariants.{Duration, Clash, Capacity, After, Coincidence, Exclusion, RoomExclusive}

breach_total : IsTotalOrder breach_cmp
breach_total =
    then_total (on_total (λ (b : Breach). rank_of b.rule) nat_cmp_total)
    (then_total (on_total (λ (b : Breach). b.exam) nat_cmp_total)
    (on_total (λ (b : Breach). b.other) nat_cmp_total))

-- a later breach is not less
in_order : (xs : List Breach) → IsStrictlySortedBy breach_cmp xs
    → IsSortedBy (λ a b. is_lt (breach_cmp a b)) xs
unfolding IsStrictlySortedBy
in_order [] up k d low lt = absurd (omega arith)
in_order (x ∷ []) up k d low lt = absurd (omega arith)
in_order (x ∷ y ∷ xs) up zero d low lt =
    ap is_lt (breach_total.antisymm y x ∙ ap ordering_reverse up.0.0)
in_order (x ∷ y ∷ xs) up (suc k) d low lt =
    let next : suc (k + 1) ≡ suc k + 1 = omega arith in
    subst (λ n. is_lt (breach_cmp (get_or (x ∷ y ∷ xs) n d) (get_or (y ∷ xs) k d)) ≡ false) next
    (in_order (y ∷ xs) up.1 k d (omega arith) (omega arith))

-- a search finds a breach exactly if there is one that is equal in the order
pub searched : (xs : List Breach) (b : Breach) (r : Result ℕ ℕ) → IsStrictlySortedBy breach_cmp xs
    → IsSearchInRange r (length xs) → IsBinarySearchResult (λ y. breach_cmp y b) xs r
    → is_ok r ≡ is_listed xs b
searched xs b (Ok i) up bound is =
    sym (list_any_at (λ y. is_eq (breach_cmp y b)) xs i b bound (ap is_eq (is b)))
searched xs b (Err i) up bound is =
    let parts = is (searchable_from_sorted breach_total (λ y. y) xs b (in_order xs up)) in
    sym (list_any_none (λ y. is_eq (breach_cmp y b)) xs
    (λ k d lt. elim (cases_lt k i) as (λ _. is_eq (breach_cmp (get_or xs k d) b) ≡ false) [
      | inl below ↦ ap is_eq (parts.0 k d (omega arith) below)
      | inr above ↦ ap is_eq (parts.1 k d above lt)
    ]))

-- ---- breaches that are equal in the order are one

abbrev rule_at : ℕ → BreachRule
rule_at zero = Duration
rule_at (suc zero) = Clash
rule_at (suc (suc zero)) = Capacity
rule_at (suc (suc (suc zero))) = After
rule_at (suc (suc (suc (suc zero)))) = Coincidence
rule_at (suc (suc (suc (suc (suc zero))))) = Exclusion
rule_at (suc (suc (suc (suc (suc (suc n)))))) = RoomExclusive

rule_ranked : (r : BreachRule) → rule_at (rank_of r) ≡ r
rule_ranked Duration = refl
rule_ranked Clash = refl
rule_ranked Capacity = refl
rule_ranked After = refl
rule_ranked Coincidence = refl
rule_ranked Exclusion = refl
rule_ranked RoomExclusive = refl

same_ranks : (a b : Breach) → is_eq (breach_cmp a b) ≡ true
    → (rank_of a.rule ≡ rank_of b.rule) × (a.exam ≡ b.exam) × (a.other ≡ b.other)
same_ranks a b is = (grind (arith, nat_tests, is), grind (arith, nat_tests, is), grind (arith, nat_tests, is))

same_breach : (a b : Breach) → is_eq (breach_cmp a b) ≡ true → a ≡ b
same_breach a b is = grind (arith, common_steps, rule_ranked, same_ranks)

equal_itself : (b : Breach) → is_eq (breach_cmp b b) ≡ true
equal_itself b = grind (arith, nat_tests)

-- the search answers as any test that says whether a breach is in the list
pub listed_as : (xs : List Breach) (test : Breach → Bool)
    → ((b : Breach) → (Contains xs b ↔ IsTrue (test b))) → (b : Breach)
    → is_listed xs b ≡ test b
listed_as xs test says b = go (list_any equal xs) refl (test b) refl
  where
    equal : Breach → Bool
    equal c = is_eq (breach_cmp c b)

    there : list_any equal xs ≡ true → test b ≡ true
    there is = grind (arith, common_steps, Any-from_list_any, same_breach)

    here : test b ≡ true → list_any equal xs ≡ true
    here is = grind (arith, common_steps, equal_itself, list_any_at)

    go : (m : Bool) → list_any equal xs ≡ m → (n : Bool) → test b ≡ n → m ≡ n
    go true is true of = refl
    go false is false of = refl
    go true is false of = sym (there is) ∙ of
    go false is true of = sym is ∙ here of

-- the breaches that are not listed are those that fail the test
pub new_as : (xs ys : List Breach) (test : Breach → Bool)
    → ((b : Breach) → (Contains xs b ↔ IsTrue (test b)))
    → filter (λ b. not (is_listed xs b)) ys ≡ filter (λ b. not (test b)) ys
new_as xs ys test says = λ i. filter (λ b. not (listed_as xs test says b i)) ys
