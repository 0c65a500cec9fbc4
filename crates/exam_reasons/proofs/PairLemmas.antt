-- The pairs of exams that cost something hold all summands.
use Rattle.std.proofs.lemmas.Bool.{cases_eq, eq-eqb, ltb-false, ne_eqb}
use Rattle.std.proofs.lemmas.Grind.{flat_map-append}
use Rattle.std.proofs.Math.Nat.{mul-zero, zero-mul}
use Rattle.std.proofs.Common.{◌≡◌, ◌<◌, ◌≤◌, ℕ, zero, suc, ◌+◌, ◌*◌, ◌==◌, ◌∙◌, ◌++◌, ◌∷◌, [], Bool, List, None, Option, All, add-one, ap, ap₂, append-nil, append_assoc, arith, cond, false, filter, flat_map, get_or, inl, inr, length, nat_lt, refl, subst, sym, true}
use Rattle.std.proofs.lemmas.List.Elements.{All-append, All-cons, All-filter, All-get_or, All-nil, filter-append}
use Rattle.exam_model.specs.Conflicts.{conflict_if, conflicts_below, conflicts_of, conflicts_with}
use Rattle.exam_model.specs.Enrolments.{Enrolled, shared_students}
use Rattle.exam_model.specs.Instance.{Session}
use Rattle.exam_model.specs.Timetable.{Placing}
use Rattle.exam_model.specs.declared.conflicts.Conflict.{Conflict}
use Rattle.exam_model.proofs.ConflictLemmas.{conflicts_exist}
use Rattle.exam_reasons.specs.Lists.{all_below, listed}
use Rattle.exam_reasons.specs.Pairs.{HoldsPairs, IsCounted, costly_pairs, is_costly, periods_cost}
use Rattle.exam_reasons.specs.Reasons.{pair_points, pair_reason}
use Rattle.exam_reasons.specs.declared.reasons.PairKind.{PairKind}
use Rattle.exam_reasons.specs.declared.reasons.PairKind.TheVariants.{Day, Night, Row, Spread}
use Rattle.exam_reasons.specs.declared.reasons.PairReason.{PairReason}

-- ---- the summands of a pair

-- four numbers whose sum is not above 0
none_above : (a b c d : ℕ) → nat_lt 0 (a + b + c + d) ≡ false → a + b + c + d ≤ 0
none_above a b c d not = ltb-false 0 (a + b + c + d) not

-- periods that cost nothing in any part
no_cost : (I : Session) (T : Placing) (c : Conflict) (kind : PairKind) → is_costly I T c ≡ false
    → periods_cost I T kind c ≡ 0
no_cost I T c Row not = first _ _ _ _ (none_above (periods_cost I T Row c)
    (periods_cost I T Day c) (periods_cost I T Spread c) (periods_cost I T Night c) not)
  where
    first : (a b c d : ℕ) → a + b + c + d ≤ 0 → a ≡ 0
    first a b c d le = omega arith
no_cost I T c Day not = second _ _ _ _ (none_above (periods_cost I T Row c)
    (periods_cost I T Day c) (periods_cost I T Spread c) (periods_cost I T Night c) not)
  where
    second : (a b c d : ℕ) → a + b + c + d ≤ 0 → b ≡ 0
    second a b c d le = omega arith
no_cost I T c Spread not = third _ _ _ _ (none_above (periods_cost I T Row c)
    (periods_cost I T Day c) (periods_cost I T Spread c) (periods_cost I T Night c) not)
  where
    third : (a b c d : ℕ) → a + b + c + d ≤ 0 → c ≡ 0
    third a b c d le = omega arith
no_cost I T c Night not = fourth _ _ _ _ (none_above (periods_cost I T Row c)
    (periods_cost I T Day c) (periods_cost I T Spread c) (periods_cost I T Night c) not)
  where
    fourth : (a b c d : ℕ) → a + b + c + d ≤ 0 → d ≡ 0
    fourth a b c d le = omega arith

-- the summand of a pair for a part
abbrev reason_of : Session → Enrolled → Placing → PairKind → Conflict → List PairReason
reason_of I E T kind c = listed (pair_reason I E T kind c.exam c.other)

-- no points are no summand
none_listed : {X : Type 0} (p : ℕ) (reason : Option X) → p ≡ 0
    → listed (cond (p == 0) None reason) ≡ []
none_listed p reason is = ap (λ b. listed (cond b None reason)) (eq-eqb p 0 is)

-- the summand of a pair that passes a test, or of none
if_passed : (I : Session) (E : Enrolled) (T : Placing) (kind : PairKind) (c : Conflict) (b : Bool)
    (found : List PairReason) → (b ≡ true → reason_of I E T kind c ≡ found)
    → (b ≡ false → found ≡ [])
    → flat_map (reason_of I E T kind) (cond b (c ∷ []) []) ≡ found
if_passed I E T kind c true found same none = append-nil (reason_of I E T kind c) ∙ same refl
if_passed I E T kind c false found same none = sym (none refl)

-- the summand of two exams is that of their conflict, if that costs something
reason_if : (I : Session) (E : Enrolled) (T : Placing) (kind : PairKind) (e f n : ℕ)
    → n ≡ shared_students E e f
    → flat_map (reason_of I E T kind) (filter (is_costly I T) (conflict_if e f n))
    ≡ listed (pair_reason I E T kind e f)
reason_if I E T kind e f n is =
    let c : Conflict = record { exam = e; other = f; students = n } in
    let found = λ (l : List Conflict).
    flat_map (reason_of I E T kind) (filter (is_costly I T) l) in
    elim (cases_eq n 0) [
      | inl zero_students ↦
          ap (λ b. found (cond b [] (c ∷ []))) (eq-eqb n 0 zero_students)
          ∙ sym (none_listed (pair_points I E T kind e f) _
          (ap (λ k. k * periods_cost I T kind c) (sym is ∙ zero_students)
          ∙ zero-mul (periods_cost I T kind c)))
      | inr some ↦
          ap (λ b. found (cond b [] (c ∷ []))) (ne_eqb n 0 some)
          ∙ if_passed I E T kind c (is_costly I T c) _ (λ _. refl)
          (λ not. none_listed (pair_points I E T kind e f) _
          (ap (λ k. shared_students E e f * k) (no_cost I T c kind not)
          ∙ mul-zero (shared_students E e f)))
    ]

reasons_with : (I : Session) (E : Enrolled) (T : Placing) (kind : PairKind) (f n : ℕ)
    → flat_map (reason_of I E T kind) (filter (is_costly I T) (conflicts_with E f n))
    ≡ all_below n (λ e. listed (pair_reason I E T kind e f))
reasons_with I E T kind f zero = refl
reasons_with I E T kind f (suc n) =
    ap (flat_map (reason_of I E T kind)) (filter-append (is_costly I T) (conflicts_with E f n)
    (conflict_if n f (shared_students E n f)))
    ∙ flat_map-append (reason_of I E T kind) (filter (is_costly I T) (conflicts_with E f n))
    (filter (is_costly I T) (conflict_if n f (shared_students E n f)))
    ∙ ap₂ (λ a b. a ++ b) (reasons_with I E T kind f n)
    (reason_if I E T kind n f (shared_students E n f) refl)

reasons_below : (I : Session) (E : Enrolled) (T : Placing) (kind : PairKind) (n : ℕ)
    → flat_map (reason_of I E T kind) (filter (is_costly I T) (conflicts_below E n))
    ≡ all_below n (λ f. all_below f (λ e. listed (pair_reason I E T kind e f)))
reasons_below I E T kind zero = refl
reasons_below I E T kind (suc n) =
    ap (flat_map (reason_of I E T kind)) (filter-append (is_costly I T) (conflicts_below E n)
    (conflicts_with E n n))
    ∙ flat_map-append (reason_of I E T kind) (filter (is_costly I T) (conflicts_below E n))
    (filter (is_costly I T) (conflicts_with E n n))
    ∙ ap₂ (λ a b. a ++ b) (reasons_below I E T kind n) (reasons_with I E T kind n n)

-- ---- the students of a pair

-- one pair, or none
counted_one : (E : Enrolled) (c : Conflict) (b : Bool) → IsCounted E c
    → All (IsCounted E) (cond b [] (c ∷ []))
counted_one E c true counted = All-nil (IsCounted E)
counted_one E c false counted = All-cons (IsCounted E) c [] counted (All-nil (IsCounted E))

counted_if : (E : Enrolled) (e f : ℕ) → e < length E → f < length E
    → All (IsCounted E) (conflict_if e f (shared_students E e f))
counted_if E e f one two =
    counted_one E (record { exam = e; other = f; students = shared_students E e f })
    (shared_students E e f == 0) (record { exam = one; other = two; students = refl })

counted_with : (E : Enrolled) (f n : ℕ) → n ≤ length E → f < length E
    → All (IsCounted E) (conflicts_with E f n)
counted_with E f zero le lt = All-nil (IsCounted E)
counted_with E f (suc n) le lt =
    All-append (IsCounted E) (conflicts_with E f n) (conflict_if n f (shared_students E n f))
    (counted_with E f n (omega arith) lt) (counted_if E n f (omega arith) lt)

counted_below : (E : Enrolled) (n : ℕ) → n ≤ length E → All (IsCounted E) (conflicts_below E n)
counted_below E zero le = All-nil (IsCounted E)
counted_below E (suc n) le =
    All-append (IsCounted E) (conflicts_below E n) (conflicts_with E n n)
    (counted_below E n (omega arith)) (counted_with E n n (omega arith) (omega arith))

-- ---- all of it

pub holds_pairs : (I : Session) (E : Enrolled) (T : Placing) (pairs : List Conflict)
    → pairs ≡ costly_pairs I E T → HoldsPairs I E T pairs
holds_pairs I E T pairs is = record {
  reasons = λ kind. rw is (reasons_below I E T kind (length E));
  counted = rw is (All-filter (is_costly I T) (IsCounted E) (conflicts_of E)
      (counted_below E (length E) (omega arith)));
}

-- ---- one pair more

-- one exam more with its smaller ones
pub with_more : (I : Session) (E : Enrolled) (T : Placing) (f e : ℕ) (old found new : List Conflict)
    → found ≡ old ++ filter (is_costly I T) (conflicts_with E f e)
    → new ≡ found ++ filter (is_costly I T) (conflict_if e f (shared_students E e f))
    → new ≡ old ++ filter (is_costly I T) (conflicts_with E f (e + 1))
with_more I E T f e old found new was is =
    is ∙ ap (λ l. l ++ filter (is_costly I T) (conflict_if e f (shared_students E e f))) was
    ∙ append_assoc old (filter (is_costly I T) (conflicts_with E f e)) _
    ∙ ap (λ l. old ++ l) (sym (filter-append (is_costly I T) (conflicts_with E f e) _)
    ∙ ap (λ n. filter (is_costly I T) (conflicts_with E f n)) (sym (add-one e)))

-- one greater exam more
pub below_more : (I : Session) (E : Enrolled) (T : Placing) (f : ℕ) (found new : List Conflict)
    → found ≡ filter (is_costly I T) (conflicts_below E f)
    → new ≡ found ++ filter (is_costly I T) (conflicts_with E f f)
    → new ≡ filter (is_costly I T) (conflicts_below E (f + 1))
below_more I E T f found new was is =
    is ∙ ap (λ l. l ++ filter (is_costly I T) (conflicts_with E f f)) was
    ∙ sym (filter-append (is_costly I T) (conflicts_below E f) (conflicts_with E f f))
    ∙ ap (λ n. filter (is_costly I T) (conflicts_below E n)) (sym (add-one f))

-- both exams of a conflict exist
pub exams_of_conflict : (E : Enrolled) (list : List Conflict) (k : ℕ) (c : Conflict)
    → list ≡ conflicts_of E → k < length list → c ≡ get_or list k c
    → (c.exam < length E) × (c.other < length E)
exams_of_conflict E list k c is lt at =
    subst (λ (x : Conflict). (x.exam < length E) × (x.other < length E)) (sym at)
    (All-get_or (λ (x : Conflict). (x.exam < length E) × (x.other < length E)) list k c lt
    (rw is (conflicts_exist E)))
