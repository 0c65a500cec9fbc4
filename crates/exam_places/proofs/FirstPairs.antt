-- The first pair of exams that breaks a rule and names one exam.
use Rattle.std.proofs.lemmas.Grind.{common_steps}
use Rattle.std.proofs.Common.{◌≡◌, ◌≢◌, ◌⊎◌, ℕ, ◌<◌, ◌≤◌, inl, inr, Bool, true, false, cond, ◌&&◌, ◌||◌, ◌==◌, [], ◌∷◌, Less, length, Option, Some, None, refl, sym, ◌∙◌, ap, ap₂, arith, eqb-true, nat_lt, option_map, slice_get}
use Rattle.std.proofs.lemmas.Bool.{and_parts, cases_eq, cases_lt, true≢false}
use Rattle.std.proofs.lemmas.Bool.Decides.{nat_tests}
use Rattle.exam_lists.proofs.Sorted.{sorted_head}
use Rattle.exam_lists.proofs.Searches.{slice_get_from_none}
use Rattle.exam_model.specs.Enrolments.{Enrolled}
use Rattle.exam_model.specs.Instance.{Session}
use Rattle.exam_model.specs.Timetable.{Placing}
use Rattle.exam_rules.specs.declared.breach.BreachRule.{BreachRule}
use Rattle.exam_rules.specs.declared.breach.BreachRule.TheVariants.{Clash, RoomExclusive}
use Rattle.exam_rules.specs.Breach.{breach, exam_pair_cmp, pair, passing_pairs}
use Rattle.exam_rules.specs.Breaches.{name_one}
use Rattle.exam_rules.specs.HardRules.{breaks}
use Rattle.exam_rules.proofs.EnumerationLemmas.{passing_all, passing_only, passing_sorted}
use Rattle.exam_rules.proofs.NamingLemmas.{first_of_rule}
use Rattle.exam_rules.proofs.PlaceLemmas.{breaking_exist}
use Rattle.exam_places.specs.Breaches.{clash_with, exclusive_breach, keeping_breach, own_breach}
use Rattle.exam_places.specs.Firsts.{first_below}
use Rattle.exam_places.proofs.BreachSplit.{first_of}
use Rattle.exam_places.proofs.FirstLemmas.{IsFirst, IsFirstOrNone, first_is}

-- ---- the least pair that passes a test

-- the pair of a and b passes, and no pair that passes comes before it
record IsLeast (test : ℕ → ℕ → Bool) (a b : ℕ) : Type 0 where
  passes : test a b ≡ true
  least : (x y : ℕ) → test x y ≡ true → (a < x) ⊎ ((a ≡ x) × (b ≤ y))

not_before : (a b x y : ℕ) → (a < x) ⊎ ((a ≡ x) × (b ≤ y))
    → exam_pair_cmp (pair x y) (pair a b) ≡ Less → ⊥
not_before a b x y (inl less) before = grind (arith, nat_tests)
not_before a b x y (inr equal) before = grind (arith)

first_pair : (test : ℕ → ℕ → Bool) (n a b : ℕ) → a < n → b < n → IsLeast test a b
    → slice_get (passing_pairs test n) 0 ≡ Some (pair a b)
first_pair test n a b la lb is =
    sorted_head exam_pair_cmp (pair a b) (passing_pairs test n) (passing_sorted test n)
    (passing_all test n (pair a b) (la, lb) is.passes)
    (λ p there before. not_before a b p.exam p.other
    (is.least p.exam p.other (passing_only test n p there)) before)

no_pair : (test : ℕ → ℕ → Bool) (n : ℕ) → ((x y : ℕ) → test x y ≡ true → ⊥)
    → slice_get (passing_pairs test n) 0 ≡ None
no_pair test n none =
    slice_get_from_none (passing_pairs test n)
    (λ p there. none p.exam p.other (passing_only test n p there))

-- ---- the first breach of one rule that names the exam e

-- whether two exams break a rule and one of them is e
abbrev naming : Session → Enrolled → Placing → ℕ → BreachRule → ℕ → ℕ → Bool
naming I E T e r x y = name_one (e ∷ []) x y && breaks I E T r x y

by_pairs : (I : Session) (E : Enrolled) (T : Placing) (e : ℕ) (r : BreachRule)
    → first_of I E T (e ∷ []) r
    ≡ option_map (breach r) (slice_get (passing_pairs (naming I E T e r) (length I.exams)) 0)
by_pairs I E T e r = grind (arith, first_of_rule)

-- that pair of a rule is the first
found : (I : Session) (E : Enrolled) (T : Placing) (e : ℕ) (r : BreachRule) (a b : ℕ)
    → a < length I.exams → b < length I.exams → IsLeast (naming I E T e r) a b
    → first_of I E T (e ∷ []) r ≡ Some (breach r (pair a b))
found I E T e r a b la lb is =
    by_pairs I E T e r
    ∙ ap (option_map (breach r)) (first_pair (naming I E T e r) (length I.exams) a b la lb is)

-- no pair of a rule names the exam
none : (I : Session) (E : Enrolled) (T : Placing) (e : ℕ) (r : BreachRule)
    → ((x y : ℕ) → naming I E T e r x y ≡ true → ⊥)
    → first_of I E T (e ∷ []) r ≡ None
none I E T e r lacks =
    by_pairs I E T e r ∙ ap (option_map (breach r)) (no_pair (naming I E T e r) (length I.exams) lacks)

one_of : (e x y : ℕ) → name_one (e ∷ []) x y ≡ true → (x ≡ e) ⊎ (y ≡ e)
one_of e x y named = elim (cases_eq x e) as (λ _. (x ≡ e) ⊎ (y ≡ e)) [
  | inl same ↦ inl same
  | inr other ↦ inr (let last : y ≡ e = grind (arith, nat_tests) in last)
]

named_first : (e y : ℕ) (b : Bool) → b ≡ true → (name_one (e ∷ []) e y && b) ≡ true
named_first e y b is = let own : name_one (e ∷ []) e y ≡ true = grind (arith, nat_tests) in
    ap₂ (λ c d. c && d) own is

named_second : (e x : ℕ) (b : Bool) → b ≡ true → (name_one (e ∷ []) x e && b) ≡ true
named_second e x b is = let own : name_one (e ∷ []) x e ≡ true = grind (arith, nat_tests) in
    ap₂ (λ c d. c && d) own is

-- a rule that an exam breaks by itself
pub own_first : (I : Session) (E : Enrolled) (T : Placing) (e : ℕ) (r : BreachRule) (own : ℕ → Bool)
    → ((x y : ℕ) → breaks I E T r x y ≡ ((x == y) && own x)) → e < length I.exams
    → first_of I E T (e ∷ []) r ≡ cond (own e) (Some (own_breach r e)) None
own_first I E T e r own is within = go (own e) refl
  where
    both : (x y : ℕ) → naming I E T e r x y ≡ true → (x ≡ e) × (y ≡ e) × (own e ≡ true)
    both x y h = grind (arith, and_parts, eqb-true, one_of)

    go : (b : Bool) → own e ≡ b
        → first_of I E T (e ∷ []) r ≡ cond b (Some (own_breach r e)) None
    go true breaks_it = found I E T e r e e within within (record {
      passes = grind (arith, common_steps, named_first);
      least = λ x y h. (let parts = both x y h in inr (sym parts.0, omega (arith, parts.1)));
    })
    go false keeps_it = none I E T e r
        (λ x y h. true≢false (sym ((both x y h).2) ∙ keeps_it))

-- ---- clashes

-- the clashes of an exam are those with the exams that pass a test
pub clash_first : (I : Session) (E : Enrolled) (T : Placing) (e : ℕ) (test : ℕ → Bool)
    → length T ≡ length I.exams → e < length I.exams → test e ≡ false
    → ((f : ℕ) → f < e → breaks I E T Clash f e ≡ test f)
    → ((f : ℕ) → e < f → breaks I E T Clash e f ≡ test f)
    → first_of I E T (e ∷ []) Clash
    ≡ option_map (clash_with e) (first_below (length I.exams) test)
clash_first I E T e test fits within own before after =
    go (first_below (length I.exams) test) (first_is (length I.exams) test)
  where
    n : ℕ
    n = length I.exams

    -- the other exam of a clash passes and exists
    other : (x y : ℕ) → naming I E T e Clash x y ≡ true
        → ((x ≡ e) × (e < y) × (test y ≡ true) × (y < n))
        ⊎ ((y ≡ e) × (x < e) × (test x ≡ true) × (x < n))
    other x y h =
        let parts = and_parts (name_one (e ∷ []) x y) (breaks I E T Clash x y) h in
        let exist = breaking_exist I E T Clash n fits x y parts.1 in
        let ordered : x < y = in_order x y _ parts.1 in
        elim (one_of e x y parts.0) as (λ _. ((x ≡ e) × (e < y) × (test y ≡ true) × (y < n))
        ⊎ ((y ≡ e) × (x < e) × (test x ≡ true) × (x < n))) [
          | inl first ↦
              inl (
                first,
                omega (arith, first, ordered),
                sym (after y (omega (arith, first, ordered)))
                    ∙ ap (λ k. breaks I E T Clash k y) (sym first) ∙ parts.1,
                exist.1,
              )
          | inr second ↦
              inr (
                second,
                omega (arith, second, ordered),
                sym (before x (omega (arith, second, ordered)))
                    ∙ ap (λ k. breaks I E T Clash x k) (sym second) ∙ parts.1,
                exist.0,
              )
        ]
      where
        in_order : (x y : ℕ) (b : Bool) → (nat_lt x y && b) ≡ true → x < y
        in_order x y b h = grind (arith, and_parts)

    go : (o : Option ℕ) → IsFirstOrNone n test o
        → first_of I E T (e ∷ []) Clash ≡ option_map (clash_with e) o
    go None lacks = none I E T e Clash (λ x y h. elim (other x y h) as (λ _. ⊥)
        [ inl p ↦ lacks y p.2 p.3 | inr p ↦ lacks x p.2 p.3 ])
    go (Some f) is = elim (cases_lt f e) as (λ _. first_of I E T (e ∷ []) Clash
        ≡ Some (clash_with e f)) [
          | inl less ↦
              found I E T e Clash f e is.within within (record {
                passes = named_second e f _ (before f less ∙ is.passes);
                least = λ x y h. elim (other x y h) as (λ _. (f < x) ⊎ ((f ≡ x) × (e ≤ y))) [
                  | inl p ↦ inl (omega (arith, p.0, less))
                  | inr p ↦ elim (is.least x p.2 p.3) as (λ _. (f < x) ⊎ ((f ≡ x) × (e ≤ y)))
                      [ inl same ↦ inr (same, omega (arith, p.0)) | inr more ↦ inl more ]
                ];
              })
              ∙ ap (λ b. Some (cond b (breach Clash (pair f e)) (breach Clash (pair e f))))
              (let yes' : true ≡ nat_lt f e = grind (arith, nat_tests) in yes')
          | inr most ↦
              (let greater : e < f = later f is most in
              found I E T e Clash e f within is.within (record {
                passes = named_first e f _ (after f greater ∙ is.passes);
                least = λ x y h. elim (other x y h) as (λ _. (e < x) ⊎ ((e ≡ x) × (f ≤ y))) [
                  | inl p ↦ inr (
                    sym p.0,
                    elim (is.least y p.2 p.3) as (λ _. f ≤ y)
                        [ inl same ↦ omega (arith, same) | inr more ↦ omega (arith, more) ],
                  )
                  | inr p ↦ absurd (elim (is.least x p.2 p.3) as (λ _. ⊥) [
                    | inl same ↦ omega (arith, same, p.1, greater)
                    | inr more ↦ omega (arith, more, p.1, greater)
                  ])
                ];
              })
              ∙ ap (λ b. Some (cond b (breach Clash (pair f e)) (breach Clash (pair e f))))
              (let no' : false ≡ nat_lt f e = grind (arith, nat_tests) in no'))
        ]
      where
        later : (f : ℕ) → IsFirst n test f → e ≤ f → e < f
        later f is most = elim (cases_eq f e) as (λ _. e < f) [
          | inl same ↦ absurd (true≢false (sym is.passes ∙ ap test same ∙ own))
          | inr differs ↦ omega (arith, most, differs)
        ]

-- ---- rooms that an exam must have to itself

-- one of two exams is e, one of them keeps its room, and the other is there
abbrev IsKept : ℕ → ℕ → (ℕ → Bool) → (ℕ → Bool) → ℕ → ℕ → Type 0
IsKept n e here keeps x y =
    ((x ≡ e) × (keeps e ≡ true) × (here y ≡ true) × (y < n))
    ⊎ ((y ≡ e) × (keeps x ≡ true) × (here x ≡ true) × (x < n))

-- the pairs of an exam are those with the exams at its place, if either keeps its room
pub exclusive_first : (I : Session) (E : Enrolled) (T : Placing) (e : ℕ) (here keeps : ℕ → Bool)
    → length T ≡ length I.exams → e < length I.exams → here e ≡ false
    → ((f : ℕ) → breaks I E T RoomExclusive f e ≡ (keeps f && here f))
    → ((f : ℕ) → breaks I E T RoomExclusive e f ≡ (keeps e && here f))
    → first_of I E T (e ∷ []) RoomExclusive
    ≡ exclusive_breach e (keeps e) (first_below (length I.exams) here)
    (first_below (length I.exams) (λ f. here f && keeps f))
exclusive_first I E T e here keeps fits within own before after =
    go (keeps e) refl (first_below n here) (first_is n here)
    (first_below n (λ f. here f && keeps f)) (first_is n (λ f. here f && keeps f))
  where
    n : ℕ
    n = length I.exams

    both_ways : (f : ℕ) → keeps f ≡ true → here f ≡ true → (here f && keeps f) ≡ true
    both_ways f k h = ap₂ (λ a b. a && b) h k

    other : (x y : ℕ) → naming I E T e RoomExclusive x y ≡ true → IsKept n e here keeps x y
    other x y h =
        let parts = and_parts (name_one (e ∷ []) x y) (breaks I E T RoomExclusive x y) h in
        let exist = breaking_exist I E T RoomExclusive n fits x y parts.1 in
        elim (one_of e x y parts.0) as (λ _. IsKept n e here keeps x y) [
          | inl first ↦
              (let two = and_parts (keeps e) (here y) (sym (after y)
              ∙ ap (λ k. breaks I E T RoomExclusive k y) (sym first) ∙ parts.1) in
              inl (first, two.0, two.1, exist.1))
          | inr second ↦
              (let two = and_parts (keeps x) (here x) (sym (before x)
              ∙ ap (λ k. breaks I E T RoomExclusive x k) (sym second) ∙ parts.1) in
              inr (second, two.0, two.1, exist.0))
        ]

    -- the first keeper k and the exam: no pair of the exam's own comes before it
    with_keeper : (k : ℕ) → IsFirst n (λ f. here f && keeps f) k
        → ((y : ℕ) → keeps e ≡ true → k < e)
        → first_of I E T (e ∷ []) RoomExclusive ≡ Some (breach RoomExclusive (pair k e))
    with_keeper k is smaller =
        let two = and_parts (here k) (keeps k) is.passes in
        found I E T e RoomExclusive k e is.within within (record {
          passes = named_second e k _ (before k ∙ ap₂ (λ a b. a && b) two.1 two.0);
          least = λ x y h. elim (other x y h) as (λ _. (k < x) ⊎ ((k ≡ x) × (e ≤ y))) [
            | inl p ↦ inl (omega (arith, p.0, smaller y p.1))
            | inr p ↦ elim (is.least x (both_ways x p.1 p.2) p.3)
                as (λ _. (k < x) ⊎ ((k ≡ x) × (e ≤ y)))
                [ inl same ↦ inr (same, omega (arith, p.0)) | inr more ↦ inl more ]
          ];
        })

    -- the exam and the first other one: no keeper comes before the exam
    keeping : (f : ℕ) → IsFirst n here f → keeps e ≡ true
        → ((x : ℕ) → keeps x ≡ true → here x ≡ true → x < n → e < x)
        → first_of I E T (e ∷ []) RoomExclusive ≡ Some (breach RoomExclusive (pair e f))
    keeping f is its greater =
        found I E T e RoomExclusive e f within is.within (record {
          passes = named_first e f _ (after f ∙ ap₂ (λ a b. a && b) its is.passes);
          least = λ x y h. elim (other x y h) as (λ _. (e < x) ⊎ ((e ≡ x) × (f ≤ y))) [
            | inl p ↦ inr (
              sym p.0,
              elim (is.least y p.2 p.3) as (λ _. f ≤ y)
                  [ inl same ↦ omega (arith, same) | inr more ↦ omega (arith, more) ],
            )
            | inr p ↦ inl (greater x p.1 p.2 p.3)
          ];
        })

    nobody : ((x y : ℕ) → IsKept n e here keeps x y → ⊥) → first_of I E T (e ∷ []) RoomExclusive ≡ None
    nobody lacks = none I E T e RoomExclusive (λ x y h. lacks x y (other x y h))

    -- the exam's own pair, if no keeper comes before it
    its_own : (b : Bool) → keeps e ≡ b → (o : Option ℕ) → IsFirstOrNone n here o
        → ((x : ℕ) → keeps x ≡ true → here x ≡ true → x < n → (keeps e ≡ true) × (e < x))
        → first_of I E T (e ∷ []) RoomExclusive ≡ keeping_breach e b o
    its_own b kept None lacks greater = nobody (λ x y p. elim p as (λ _. ⊥)
        [ inl q ↦ lacks y q.2 q.3 | inr q ↦ lacks x q.2 q.3 ])
    its_own true kept (Some f) is greater =
        keeping f is kept (λ x a b c. (greater x a b c).1)
    its_own false kept (Some f) is greater = nobody (λ x y p. elim p as (λ _. ⊥) [
      | inl q ↦ true≢false (sym q.1 ∙ kept)
      | inr q ↦ true≢false (sym (greater x q.1 q.2 q.3).0 ∙ kept)
    ])

    differs : (k : ℕ) → IsFirst n (λ f. here f && keeps f) k → k ≢ e
    differs k is same =
        true≢false (sym (and_parts (here k) (keeps k) is.passes).0 ∙ ap here same ∙ own)

    go : (b : Bool) → keeps e ≡ b → (o : Option ℕ) → IsFirstOrNone n here o
        → (k : Option ℕ) → IsFirstOrNone n (λ f. here f && keeps f) k
        → first_of I E T (e ∷ []) RoomExclusive ≡ exclusive_breach e b o k
    go b kept o first None lacks =
        its_own b kept o first (λ x p q l. absurd (lacks x (both_ways x p q) l))
    go false kept o first (Some k) is =
        with_keeper k is (λ y its. absurd (true≢false (sym its ∙ kept)))
        ∙ ap (λ c. cond c (Some (breach RoomExclusive (pair k e))) (keeping_breach e false o))
        (sym (or_true (nat_lt k e)))
      where
        or_true : (c : Bool) → (c || true) ≡ true
        or_true true = refl
        or_true false = refl
    go true kept o first (Some k) is = elim (cases_lt k e) as (λ _.
        first_of I E T (e ∷ []) RoomExclusive ≡ exclusive_breach e true o (Some k)) [
          | inl less ↦
              with_keeper k is (λ y its. less)
              ∙ ap (λ c. cond (c || false) (Some (breach RoomExclusive (pair k e)))
              (keeping_breach e true o))
              (let yes' : true ≡ nat_lt k e = grind (arith, nat_tests) in yes')
          | inr most ↦
              (let other' : k ≢ e = differs k is in
              its_own true kept o first (λ x p q l. (
                kept,
                elim (is.least x (both_ways x p q) l)
                    as (λ _. e < x) [ inl same ↦ omega (arith, same, most, other') | inr more ↦ omega (arith, more, most) ],
              ))
              ∙ ap (λ c. cond (c || false) (Some (breach RoomExclusive (pair k e)))
              (keeping_breach e true o))
              (let no' : false ≡ nat_lt k e = grind (arith, nat_tests) in no'))
        ]
