-- A fold with one more pair.
use Rattle.std.proofs.lemmas.Grind.{common_steps}
use Rattle.std.specs.List.{AllByRecursion}
use Rattle.std.proofs.Common.{◌≡◌, ◌≢◌, ℕ, ◌+◌, ◌<◌, inl, inr, cond, List, [], ◌∷◌, ◌++◌, length, sum_by, Option, Some, None, All, AllPairs, refl, sym, ◌∙◌, ap, ap₂, subst, arith, ne_eqb, eq-eqb, append_assoc, length-append, zero-add, rules}
use Rattle.std.proofs.lemmas.List.Elements.{All-from_recursion, recursion_from_All}
use Rattle.std.proofs.lemmas.List.Sums.{sum_by-append, sum_by-cons}
use Rattle.std.proofs.lemmas.List.{map_push}
use Rattle.exam_lists.proofs.Chains.{chain_from_index, chain_push, index_from_chain}
use Rattle.exam_lists.proofs.Each.{each_weaker, each_append, each_push}
use Rattle.exam_lists.proofs.Sums.{sum_by-none}
use Rattle.exam_model.specs.Instance.{Session}
use Rattle.exam_model.specs.Pairs.{Pair}
use Rattle.exam_model.specs.Sums.{sum_pairs}
use Rattle.exam_model.specs.Timetable.{Placing}
use Rattle.exam_score.specs.Kinds.{cost_in, by_kind}
use Rattle.exam_score.specs.Folds.{Folded, RepresentsPairs, CanFollow, ComesEarlier, pairs_sat}
use Rattle.exam_score.specs.EditedCosts.{edited_cost, exams_cost, personal_at, personal_sum, students_cost}
use Rattle.exam_score.specs.Penalty.{PersonalPenalty, penalty_sum}
use Rattle.exam_score.proofs.RegroupingLemmas.{later_cost}

-- ---- the costs of pairs

-- two lists of pairs that share no student
apart_cost : (w : ℕ → ℕ → ℕ) (ps qs : List Pair)
    → AllByRecursion (λ p. AllByRecursion (λ q. p.student < q.student) qs) ps
    → sum_pairs (later_cost w) (ps ++ qs)
    ≡ sum_pairs (later_cost w) ps + sum_pairs (later_cost w) qs
apart_cost w [] qs h = sym (zero-add _)
apart_cost w (p ∷ ps) qs h =
    let more = apart_cost w ps qs h.1 in
    let split = sum_by-append (later_cost w p) ps qs in
    let none = sum_by-none (later_cost w p) qs
    (each_weaker (λ q. p.student < q.student) _
    (λ q l. ap (λ b. cond b (w p.exam q.exam) 0)
    (ne_eqb q.student p.student (λ e. omega (arith, l, e)))) qs h.0) in
    omega arith

cost_apart : (cost : ℕ → ℕ → ℕ) (T : Placing) (edited : List ℕ) (ps qs : List Pair)
    → AllByRecursion (λ p. AllByRecursion (λ q. p.student < q.student) qs) ps
    → students_cost cost T edited (ps ++ qs)
    ≡ students_cost cost T edited ps + students_cost cost T edited qs
cost_apart cost T edited ps qs h = apart_cost (edited_cost cost T edited) ps qs h

pub sum_apart : (I : Session) (T : Placing) (edited : List ℕ) (ps qs : List Pair)
    → AllByRecursion (λ p. AllByRecursion (λ q. p.student < q.student) qs) ps
    → personal_sum I T edited (ps ++ qs)
    ≡ penalty_sum (personal_sum I T edited ps) (personal_sum I T edited qs)
sum_apart I T edited ps qs h = λ i. by_kind (λ k. cost_apart (cost_in I k) T edited ps qs h i)

-- the pairs of one student
own_beside : (w : ℕ → ℕ → ℕ) (s e : ℕ) (es : List ℕ)
    → sum_by (later_cost w (record { exam = e; student = s })) (pairs_sat (Some s) es)
    ≡ sum_by (w e) es
own_beside w s e [] = refl
own_beside w s e (f ∷ fs) =
    grind (arith, common_steps, own_beside w s e fs, eq-eqb, later_cost, sum_by-cons)

own_cost : (w : ℕ → ℕ → ℕ) (s : ℕ) (es : List ℕ)
    → sum_pairs (later_cost w) (pairs_sat (Some s) es) ≡ sum_pairs w es
own_cost w s [] = refl
own_cost w s (e ∷ es) = ap₂ (λ m n. m + n) (own_beside w s e es) (own_cost w s es)

cost_of_student : (cost : ℕ → ℕ → ℕ) (T : Placing) (edited : List ℕ) (student : Option ℕ)
    (es : List ℕ) → (student ≡ None → es ≡ [])
    → exams_cost cost T edited es ≡ students_cost cost T edited (pairs_sat student es)
cost_of_student cost T edited None es none = ap (exams_cost cost T edited) (none refl)
cost_of_student cost T edited (Some s) es none = sym (own_cost (edited_cost cost T edited) s es)

-- the costs of the open student
pub sum_of_student : (I : Session) (T : Placing) (edited : List ℕ) (student : Option ℕ)
    (es : List ℕ) → (student ≡ None → es ≡ [])
    → personal_at I T edited es ≡ personal_sum I T edited (pairs_sat student es)
sum_of_student I T edited student es none =
    λ i. by_kind (λ k. cost_of_student (cost_in I k) T edited student es none i)

-- ---- the student of a pair

other_each : (student : Option ℕ) (es : List ℕ) (s : ℕ) → (student ≡ Some s → ⊥)
    → AllByRecursion (λ p. p.student ≢ s) (pairs_sat student es)
other_each None es s other = tt
other_each (Some x) [] s other = tt
other_each (Some x) (e ∷ es) s other = (λ k. other (ap Some k), other_each (Some x) es s other)

-- ---- one more pair

closed_before : (count : ℕ) (closed current : List Pair) (pair : Pair) → (current ≡ [] → count ≡ 0)
    → count ≡ length (closed ++ current)
    → AllByRecursion (λ p. ComesEarlier p pair) current
    → AllByRecursion (λ p. AllByRecursion (λ q. p.student < q.student) current) closed
    → AllByRecursion (λ p. p.student < pair.student) closed
closed_before count [] current pair none n follows others = tt
closed_before count (p ∷ ps) [] pair none n follows others =
    absurd (let z = none refl in omega (arith, n, z))
closed_before count (p ∷ ps) (q ∷ qs) pair none n follows others = grind (arith, each_weaker)

-- facts about the other students, along the lists
pub others_each : (closed current : List Pair)
    → All (λ p. All (λ q. p.student < q.student) current) closed
    → AllByRecursion (λ p. AllByRecursion (λ q. p.student < q.student) current) closed
others_each closed current h = search (rules, each_weaker, recursion_from_All)

each_others : (closed current : List Pair)
    → AllByRecursion (λ p. AllByRecursion (λ q. p.student < q.student) current) closed
    → All (λ p. All (λ q. p.student < q.student) current) closed
each_others closed current h = grind (arith, All-from_recursion, each_weaker)

in_order_push : (closed current : List Pair) (pairs : List Pair) (pair : Pair)
    → pairs ≡ closed ++ current → AllPairs ComesEarlier pairs
    → AllByRecursion (λ p. p.student < pair.student) closed
    → AllByRecursion (λ p. ComesEarlier p pair) current → AllPairs ComesEarlier (pairs ++ pair ∷ [])
in_order_push closed current pairs pair parts order below follows =
    index_from_chain ComesEarlier (pairs ++ pair ∷ [])
    (chain_push ComesEarlier pairs pair (chain_from_index ComesEarlier pairs order)
    (subst (AllByRecursion (λ p. ComesEarlier p pair)) (sym parts)
    (each_append (λ p. ComesEarlier p pair) closed current
    (each_weaker (λ p. p.student < pair.student) (λ p. ComesEarlier p pair)
    (λ p l. inl l) closed below) follows)))

-- one more pair of the open student
pub represents_more : (fold : Folded) (pairs : List Pair) (s e : ℕ) (exams : List ℕ)
    → RepresentsPairs fold pairs → fold.current ≡ pairs_sat (Some s) exams
    → (fold.current ≡ [] → fold.count ≡ 0) → CanFollow fold (record { exam = e; student = s })
    → RepresentsPairs
    (record fold { count = fold.count + 1; current = pairs_sat (Some s) (exams ++ e ∷ []) })
    (pairs ++ record { exam = e; student = s } ∷ [])
represents_more fold pairs s e exams h own started follows =
    let pair : Pair = record { exam = e; student = s } in
    let after : AllByRecursion (λ p. ComesEarlier p pair) fold.current =
    recursion_from_All (λ p. ComesEarlier p pair) fold.current follows in
    let others = others_each h.closed fold.current h.others in
    let below = closed_before fold.count h.closed fold.current pair started
    (h.count ∙ ap length h.parts) after others in
    let longer : pairs_sat (Some s) (exams ++ e ∷ []) ≡ fold.current ++ pair ∷ [] =
    grind (arith, common_steps, map_push) in
    record {
      closed = h.closed;
      parts = grind (arith, common_steps, append_assoc);
      in_order = in_order_push h.closed fold.current pairs pair h.parts h.in_order below after;
      count = ap (λ n. n + 1) h.count ∙ sym (length-append pairs (pair ∷ []));
      before = h.before;
      after = h.after;
      others = grind (arith, common_steps, below, both, each_others);
    }
  where
    both : (ps qs : List Pair) (y : Pair)
        → AllByRecursion (λ p. AllByRecursion (λ q. p.student < q.student) qs) ps
        → AllByRecursion (λ p. p.student < y.student) ps
        → AllByRecursion (λ p. AllByRecursion (λ q. p.student < q.student) (qs ++ y ∷ [])) ps
    both [] qs y a b = tt
    both (p ∷ ps) qs y a b =
        (each_push (λ q. p.student < q.student) qs y a.0 b.0, both ps qs y a.1 b.1)

-- the first pair of the next student
pub represents_turn : (fold : Folded) (pairs : List Pair) (s e : ℕ) (student : Option ℕ)
    (exams : List ℕ) (b a : PersonalPenalty) → RepresentsPairs fold pairs
    → fold.current ≡ pairs_sat student exams → (student ≡ Some s → ⊥)
    → (fold.current ≡ [] → fold.count ≡ 0) → CanFollow fold (record { exam = e; student = s })
    → b ≡ personal_sum fold.instance fold.earlier fold.edited fold.current
    → a ≡ personal_sum fold.instance fold.later fold.edited fold.current
    → RepresentsPairs (record fold {
      count = fold.count + 1;
      before = penalty_sum fold.before b;
      after = penalty_sum fold.after a;
      current = pairs_sat (Some s) (e ∷ []);
    })
    (pairs ++ record { exam = e; student = s } ∷ [])
represents_turn fold pairs s e student exams b a h own other started follows b_is a_is =
    let pair : Pair = record { exam = e; student = s } in
    let after : AllByRecursion (λ p. ComesEarlier p pair) fold.current =
    recursion_from_All (λ p. ComesEarlier p pair) fold.current follows in
    let others = others_each h.closed fold.current h.others in
    let below = closed_before fold.count h.closed fold.current pair started
    (h.count ∙ ap length h.parts) after others in
    let different : AllByRecursion (λ p. p.student ≢ s) fold.current =
    subst (AllByRecursion (λ p. p.student ≢ s)) (sym own) (other_each student exams s other) in
    let current_below : AllByRecursion (λ p. p.student < s) fold.current =
    strictly fold.current after different in
    let all_below = each_append (λ p. p.student < s) h.closed fold.current below current_below in
    record {
      closed = h.closed ++ fold.current;
      parts = ap (λ rs. rs ++ pair ∷ []) h.parts;
      in_order = in_order_push h.closed fold.current pairs pair h.parts h.in_order below after;
      count = ap (λ n. n + 1) h.count ∙ sym (length-append pairs (pair ∷ []));
      before = grind (arith, common_steps, sum_apart);
      after = grind (arith, common_steps, sum_apart);
      others = grind (arith, common_steps, each_others, each_weaker);
    }
  where
    strictly : (ps : List Pair)
        → AllByRecursion (λ p. ComesEarlier p (record { exam = e; student = s })) ps
        → AllByRecursion (λ p. p.student ≢ s) ps → AllByRecursion (λ p. p.student < s) ps
    strictly [] c n = tt
    strictly (p ∷ ps) c n = (
      elim c.0 as (λ _. p.student < s)
          [ inl l ↦ l | inr same ↦ absurd (n.0 same.0) ],
      strictly ps c.1 n.1,
    )

-- no pair is open before the first one
pub none_open : (count : ℕ) (student : Option ℕ) (exams : List ℕ)
    → (student ≡ None → (count ≡ 0) × (exams ≡ [])) → (exams ≡ [] → count ≡ 0)
    → pairs_sat student exams ≡ [] → count ≡ 0
none_open count None exams started continues_front is = (started refl).0
none_open count (Some s) [] started continues_front is = continues_front refl
none_open count (Some s) (e ∷ es) started continues_front is = grind (arith)
