-- The breaches that name an exam.
use Rattle.std.proofs.lemmas.Grind.{common_steps}
use Rattle.std.specs.List.{list_any, find, flat_map}
use Rattle.std.specs.Option.{option_or}
use Rattle.std.specs.Prelude.{option_map, slice_get}
use Rattle.std.proofs.Common.{◌≡◌, ℕ, ◌+◌, ◌<◌, Bool, true, false, ◌&&◌, ◌||◌, ◌==◌, nat_lt, List, [], ◌∷◌, map, filter, length, get_or, drop, Option, Some, None, refl, sym, ◌∙◌, ap, arith}
use Rattle.std.proofs.lemmas.Bool.{lt-ltb}
use Rattle.std.proofs.lemmas.Bool.Decides.{nat_tests}
use Rattle.std.proofs.lemmas.List.{at_drop_more}
use Rattle.std.proofs.lemmas.List.Folds.{find-append}
use Rattle.std.proofs.Math.Bool.{and-false}
use Rattle.exam_model.specs.declared.rules.PeriodRule.{PeriodRule}
use Rattle.exam_model.specs.declared.rules.PeriodRule.TheVariants.{After, Coincidence, Exclusion}
use Rattle.exam_rules.specs.declared.breach.Breach.{Breach}
use Rattle.exam_rules.specs.declared.breach.BreachRule.{BreachRule}
use Rattle.exam_rules.specs.Breach.{is_pair, breach}
use Rattle.exam_rules.specs.Breaches.{is_one_of}
use Rattle.exam_rules.specs.Lines.{is_after, is_coincidence, is_exclusion, line_names}
use Rattle.exam_rules.specs.declared.exam_pair.ExamPair.{ExamPair}

-- ---- lines

-- a line on e and f names exam a exactly if a is e or f
pub named_after : (a e f : ℕ) (line : PeriodRule) (b : Bool)
    → (is_after e f line && (is_one_of a e f && b))
    ≡ (is_after e f line && (line_names line a && b))
named_after a e f (After x y) b = grind (arith, nat_tests)
named_after a e f (Coincidence x y) b = refl
named_after a e f (Exclusion x y) b = refl

pub named_coincidence : (a e f : ℕ) (line : PeriodRule) (b : Bool)
    → (is_coincidence e f line && (is_one_of a e f && b))
    ≡ (is_coincidence e f line && (line_names line a && b))
named_coincidence a e f (After x y) b = refl
named_coincidence a e f (Coincidence x y) b = grind (arith, nat_tests)
named_coincidence a e f (Exclusion x y) b = refl

pub named_exclusion : (a e f : ℕ) (line : PeriodRule) (b : Bool)
    → (is_exclusion e f line && (is_one_of a e f && b))
    ≡ (is_exclusion e f line && (line_names line a && b))
named_exclusion a e f (After x y) b = refl
named_exclusion a e f (Coincidence x y) b = refl
named_exclusion a e f (Exclusion x y) b = grind (arith, nat_tests)

-- each line of a rule names only its own exams
abbrev pub AreNamed : (ℕ → ℕ → PeriodRule → Bool) → Type 0
AreNamed names = (a e f : ℕ) (line : PeriodRule) (b : Bool)
    → (names e f line && (is_one_of a e f && b)) ≡ (names e f line && (line_names line a && b))

-- a line that does not name the exam has no pair with it
pub line_skipped : (names : ℕ → ℕ → PeriodRule → Bool) → AreNamed names
    → (a e f : ℕ) (line : PeriodRule) (b : Bool)
    → line_names line a ≡ false → false ≡ (names e f line && (is_one_of a e f && b))
line_skipped names are a e f line b none =
    sym (are a e f line b ∙ ap (λ c. names e f line && (c && b)) none ∙ and-false (names e f line))

-- each pair of a line that names the exam is with that exam
pub line_taken : (names : ℕ → ℕ → PeriodRule → Bool) → AreNamed names
    → (a e f : ℕ) (line : PeriodRule) (b : Bool)
    → line_names line a ≡ true → (names e f line && b) ≡ (names e f line && (is_one_of a e f && b))
line_taken names are a e f line b named =
    sym (are a e f line b ∙ ap (λ c. names e f line && (c && b)) named)

-- ---- an exam and all others

-- one exam is a, and the other is below i
abbrev pub is_with : ℕ → ℕ → ℕ → ℕ → Bool
is_with a i e f = ((a == e) && nat_lt f i) || ((a == f) && nat_lt e i)

-- the pairs from before, and those of exam a and one below i that pass a test
pub record AreFoundWith (a : ℕ) (test : ℕ → ℕ → Bool) (before : List ExamPair) (i : ℕ)
    (found : List ExamPair) : Type 0 where
  pub members : (e f : ℕ) → list_any (is_pair e f) found
      ≡ (list_any (is_pair e f) before || (is_with a i e f && test e f))

-- the pairs with one more exam, before a and after it
pub with_more : {a : ℕ} {test : ℕ → ℕ → Bool} {before : List ExamPair} {i : ℕ}
    {found two : List ExamPair}
    (one : List ExamPair) {first second : ℕ → ℕ → Bool}
    → AreFoundWith a test before i found
    → ((e f : ℕ) → list_any (is_pair e f) one ≡ (list_any (is_pair e f) found || first e f))
    → ((e f : ℕ) → list_any (is_pair e f) two ≡ (list_any (is_pair e f) one || second e f))
    → ((e f : ℕ) → first e f ≡ (((i == e) && (a == f)) && test i a))
    → ((e f : ℕ) → second e f ≡ (((a == e) && (i == f)) && test a i))
    → AreFoundWith a test before (i + 1) two
with_more {a} {test} {before} {i} {found} {two} one {first} {second} so_far adds_first adds_second is_first is_second =
    record { members = λ e f. step e f }
  where
    at_first : (e f : ℕ) → (((i == e) && (a == f)) && test i a)
        ≡ (((i == e) && (a == f)) && test e f)
    at_first e f = grind (arith, nat_tests)

    at_second : (e f : ℕ) → (((a == e) && (i == f)) && test a i)
        ≡ (((a == e) && (i == f)) && test e f)
    at_second e f = grind (arith, nat_tests)

    joined : (e f : ℕ) (b c : Bool)
        → (((b || (is_with a i e f && c)) || (((i == e) && (a == f))
        && c)) || (((a == e) && (i == f))
        && c))
        ≡ (b || (is_with a (i + 1) e f && c))
    joined e f true c = refl
    joined e f false true = grind (arith, nat_tests)
    joined e f false false = grind (arith, nat_tests)

    step : (e f : ℕ) → list_any (is_pair e f) two
        ≡ (list_any (is_pair e f) before || (is_with a (i + 1) e f && test e f))
    step e f = grind (arith, common_steps, at_first, at_second, joined)

-- the pairs with all exams
pub with_all : {a : ℕ} {test : ℕ → ℕ → Bool} {before : List ExamPair} {i n : ℕ}
    {found : List ExamPair}
    → AreFoundWith a test before i found → i ≡ n → ((e f : ℕ) → test e f ≡ true → (e < n) × (f < n))
    → (e f : ℕ) → list_any (is_pair e f) found
    ≡ (list_any (is_pair e f) before || (is_one_of a e f && test e f))
with_all {a} {test} {before} {i} {n} {found} all end exist e f = grind (arith, common_steps, lt-ltb)

-- ---- rule by rule

-- the first of a rule's breaches that passes
pub first_of_rule : (named : Breach → Bool) (test : ExamPair → Bool) (r : BreachRule)
    (ps : List ExamPair)
    → find named (map (breach r) (filter test ps))
    ≡ option_map (breach r) (slice_get (filter (λ p. named (breach r p) && test p) ps) 0)
first_of_rule named test r [] = refl
first_of_rule named test r (p ∷ ps) = grind (arith, common_steps, first_of_rule named test r ps)

-- the first breach of some rules that passes
abbrev pub first_in : (Breach → Bool) → (BreachRule → List ExamPair)
    → List BreachRule → Option Breach
first_in named f rs = find named (flat_map (λ r. map (breach r) (f r)) rs)

rule_and_rest : (named : Breach → Bool) (f : BreachRule → List ExamPair) (rs : List BreachRule)
    (i : ℕ) (d : BreachRule)
    → i < length rs
    → first_in named f (drop i rs)
    ≡ option_or (find named (map (breach (get_or rs i d)) (f (get_or rs i d))))
    (first_in named f (drop (i + 1) rs))
rule_and_rest named f rs i d within = grind (arith, common_steps, at_drop_more, find-append)

-- a rule without such a breach is passed over
pub rule_passed : (named : Breach → Bool) (f : BreachRule → List ExamPair) (rs : List BreachRule)
    (i : ℕ) (d : BreachRule)
    → i < length rs → find named (map (breach (get_or rs i d)) (f (get_or rs i d))) ≡ None
    → first_in named f (drop i rs) ≡ first_in named f (drop (i + 1) rs)
rule_passed named f rs i d within none =
    grind (arith, common_steps, rule_and_rest named f rs i d within)

-- the first rule with such a breach ends the search
pub rule_broken : (named : Breach → Bool) (f : BreachRule → List ExamPair) (rs : List BreachRule)
    (i : ℕ) (d : BreachRule) (b : Breach)
    → i < length rs → find named (map (breach (get_or rs i d)) (f (get_or rs i d))) ≡ Some b
    → first_in named f (drop i rs) ≡ Some b
rule_broken named f rs i d b within some =
    grind (arith, common_steps, rule_and_rest named f rs i d within)
