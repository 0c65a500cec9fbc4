-- The penalty by pairs of exams is the penalty by students.
use Rattle.std.proofs.lemmas.Grind.{common_steps}
use Rattle.std.specs.List.{list_any, cons_option, AllByRecursion}
use Rattle.std.specs.Prelude.{◌==◌}
use Rattle.std.proofs.Common.{◌≡◌, ◌≢◌, ℕ, ◌+◌, ◌*◌, ◌<◌, ◌≤◌, true, false, cond, ◌&&◌, eqb, ltb, List, [], ◌∷◌, Option, Some, None, sum_by, filter_map, count_by, length, refl, sym, ◌∙◌, ap, arith, zero-add, eqb-true, lt-ltb, le-ltb}
use Rattle.std.proofs.lemmas.List.Sums.{sum_by-cons}
use Rattle.std.proofs.lemmas.List.Elements.{recursion_from_All}
use Rattle.std.proofs.lemmas.Bool.{cond-true, cond-false, and_parts}
use Rattle.exam_lists.proofs.Booleans.{cond_and_times, cond_and_turned}
use Rattle.exam_lists.proofs.Chains.{IsChain, chain_from_index, chain_weaker}
use Rattle.exam_lists.proofs.Each.{each_weaker}
use Rattle.exam_lists.proofs.Sums.{cond-sum_by, sum_by-add, sum_by-agree, sum_by-once, sum_by-same, sum_by-times, sum_by-zeros, sum_by-at}
use Rattle.exam_model.specs.Sums.{sum_below, sum_pairs_below, sum_pairs}
use Rattle.exam_model.specs.Enrolments.{Enrolled, shared_students, students}
use Rattle.exam_model.specs.PairCost.{cost_between}
use Rattle.exam_model.specs.Pairs.{Pair, pairs_of, is_pair, ComesBefore, ArePairsOf}
use Rattle.exam_score.specs.Regrouping.{pair_part, exams_of, periods_of, candidate_cost, AreStudentsOf}
use Rattle.exam_model.proofs.PairLemmas.{from_within}
use Rattle.exam_model.proofs.SumLemmas.{sum_below-same, sum_below-turned, sum_below-at, sum_pairs-square, sum_pairs-agree}

-- ---- definitions

-- how many students are in pairs with both exams
abbrev pub shared_in : List Pair → ℕ → ℕ → ℕ
shared_in pairs e f = count_by (λ p. (p.exam == e) && list_any (is_pair p.student f) pairs) pairs

-- pairs of exams below a number, in order and without repeats
pub record AreOrdered (exams : ℕ) (pairs : List Pair) : Type 0 where
  pub in_order : IsChain ComesBefore pairs
  pub exist : AllByRecursion (λ p. p.exam < exams) pairs

-- a list of all students of the pairs, without repeats
pub record AreStudents (pairs : List Pair) (students : List ℕ) : Type 0 where
  pub once : IsChain (λ s t. s ≢ t) students
  pub all : AllByRecursion (λ p. list_any (λ s. s == p.student) students ≡ true) pairs

-- the cost of two pairs of one student, the lesser exam first
abbrev pub pair_cost : (ℕ → ℕ → ℕ) → Pair → Pair → ℕ
pair_cost w p q = cond (ltb p.exam q.exam) (cond (eqb q.student p.student) (w p.exam q.exam) 0) 0

-- the same, if the pairs are in the order of the exams
abbrev pub later_cost : (ℕ → ℕ → ℕ) → Pair → Pair → ℕ
later_cost w p q = cond (eqb q.student p.student) (w p.exam q.exam) 0

-- ---- the sums

other_pair : (s e : ℕ) (p q : Pair) → ComesBefore p q → is_pair s e p ≡ true → is_pair s e q ≡ false
other_pair s e p q before is = grind (arith, and_parts, eqb-true)

-- one pair of exams: their shared students, as pairs of pairs
shared_as_pairs : (w : ℕ) (pairs : List Pair) (e f : ℕ) → IsChain ComesBefore pairs
    → shared_in pairs e f * w
    ≡ sum_by (λ p. sum_by (λ q. cond (eqb p.exam e) (cond (is_pair p.student f q) w 0) 0) pairs)
    pairs
shared_as_pairs w pairs e f order =
    sym (sum_by-times
    (λ p. cond (eqb p.exam e && list_any (is_pair p.student f) pairs) 1 0) w pairs)
    ∙ sum_by-same _ _ (λ p.
    cond_and_times (eqb p.exam e) (list_any (is_pair p.student f) pairs) w
    ∙ ap (λ n. cond (eqb p.exam e) n 0)
    (sum_by-once (is_pair p.student f) w pairs
    (chain_weaker ComesBefore _ (λ a b. other_pair p.student f a b) pairs order))
    ∙ cond-sum_by (eqb p.exam e) (λ q. cond (is_pair p.student f q) w 0) pairs) pairs

-- two pairs: the one pair of exams that they have
one_term : (w : ℕ → ℕ → ℕ) (n : ℕ) (p q : Pair) → q.exam < n
    → sum_pairs_below n (λ e f. cond (eqb p.exam e) (cond (is_pair p.student f q) (w e f) 0) 0)
    ≡ pair_cost w p q
one_term w n p q within =
    sum_below-same _ _ (λ f.
    sum_below-at (λ e. cond (is_pair p.student f q) (w e f) 0) p.exam f
    ∙ cond_and_turned (eqb q.student p.student) (eqb q.exam f) (ltb p.exam f) (w p.exam f)) n
    ∙ sum_below-at
    (λ f. cond (ltb p.exam f) (cond (eqb q.student p.student) (w p.exam f) 0) 0) q.exam n
    ∙ cond-true (ltb q.exam n) (pair_cost w p q) 0 (lt-ltb q.exam n within)

-- the sum over all pairs of exams is the sum over all pairs of pairs
pub by_pairs : (w : ℕ → ℕ → ℕ) (n : ℕ) (pairs : List Pair) → AreOrdered n pairs
    → sum_pairs_below n (λ e f. shared_in pairs e f * w e f)
    ≡ sum_by (λ p. sum_by (λ q. pair_cost w p q) pairs) pairs
by_pairs w n pairs h =
    let term : ℕ → ℕ → Pair → Pair → ℕ =
    λ e f p q. cond (eqb p.exam e) (cond (is_pair p.student f q) (w e f) 0) 0 in
    sum_below-same _ _ (λ f.
    sum_below-same _ _ (λ e. shared_as_pairs (w e f) pairs e f h.in_order) f
    ∙ sum_below-turned (λ e p. sum_by (term e f p) pairs) f pairs
    ∙ sum_by-same _ _ (λ p. sum_below-turned (λ e q. term e f p q) f pairs) pairs) n
    ∙ sum_below-turned (λ f p. sum_by (λ q. sum_below f (λ e. term e f p q)) pairs) n pairs
    ∙ sum_by-same _ _ (λ p.
    sum_below-turned (λ f q. sum_below f (λ e. term e f p q)) n pairs
    ∙ sum_by-agree _ _ pairs
    (each_weaker (λ q. q.exam < n) _ (λ q within. one_term w n p q within) pairs h.exist))
    pairs

pub no_self : (w : ℕ → ℕ → ℕ) (p : Pair) → pair_cost w p p ≡ 0
no_self w p = cond-false (ltb p.exam p.exam) _ 0 (le-ltb p.exam p.exam (omega arith))

pub no_back : (w : ℕ → ℕ → ℕ) (p q : Pair) → ComesBefore p q → pair_cost w q p ≡ 0
no_back w p q before = grind (arith, cond-false, le-ltb)

pub in_order_cost : (w : ℕ → ℕ → ℕ) (p q : Pair) → ComesBefore p q
    → pair_cost w p q ≡ later_cost w p q
in_order_cost w p q before = grind (arith, cond-true, lt-ltb)

-- the sum over all pairs of exams is the sum over the pairs in order
pub by_rows : (w : ℕ → ℕ → ℕ) (n : ℕ) (pairs : List Pair) → AreOrdered n pairs
    → sum_pairs_below n (λ e f. shared_in pairs e f * w e f) ≡ sum_pairs (later_cost w) pairs
by_rows w n pairs h =
    by_pairs w n pairs h
    ∙ sum_pairs-square (pair_cost w) (no_self w) pairs
    (chain_weaker ComesBefore _ (no_back w) pairs h.in_order)
    ∙ sum_pairs-agree (pair_cost w) (later_cost w) pairs
    (chain_weaker ComesBefore _ (in_order_cost w) pairs h.in_order)

-- ---- over the students

pub sum_by-exams_of : (k : ℕ → ℕ) (pairs : List Pair) (s : ℕ)
    → sum_by k (exams_of pairs s) ≡ sum_by (λ q. cond (eqb q.student s) (k q.exam) 0) pairs
sum_by-exams_of k [] s = refl
sum_by-exams_of k (p ∷ ps) s =
    grind (arith, common_steps, sum_by-exams_of k ps s, sum_by-cons, zero-add)

sum_pairs-exams_of : (w : ℕ → ℕ → ℕ) (p : Pair) (ps : List Pair) (s : ℕ)
    → sum_pairs w (exams_of (p ∷ ps) s)
    ≡ cond (eqb p.student s) (sum_by (w p.exam) (exams_of ps s)) 0 + sum_pairs w (exams_of ps s)
sum_pairs-exams_of w p ps s = grind (arith, zero-add)

-- the sum over the pairs of a list is the sum over the students
pub by_students : (w : ℕ → ℕ → ℕ) (pairs : List Pair) (students : List ℕ)
    → AreStudents pairs students
    → sum_pairs (later_cost w) pairs ≡ sum_by (λ s. sum_pairs w (exams_of pairs s)) students
by_students w [] students h = sym (sum_by-zeros students)
by_students w (p ∷ ps) students h =
    let more = by_students w ps students (record { once = h.once; all = h.all.1 }) in
    let split = sum_by-same _ _ (sum_pairs-exams_of w p ps) students
    ∙ sum_by-add (λ s. cond (eqb p.student s) (sum_by (w p.exam) (exams_of ps s)) 0)
    (λ s. sum_pairs w (exams_of ps s)) students in
    let own = sum_by-at p.student (λ s. sum_by (w p.exam) (exams_of ps s)) students h.once h.all.0
    ∙ sum_by-exams_of (w p.exam) ps p.student in
    omega arith

-- ---- placed exams

sum_by-placed : (cost : ℕ → ℕ → ℕ) (p : ℕ) (at : ℕ → Option ℕ) (es : List ℕ)
    → sum_by (λ f. cost_between cost (Some p) (at f)) es ≡ sum_by (cost p) (filter_map at es)
sum_by-placed cost p at [] = refl
sum_by-placed cost p at (e ∷ es) =
    sum_by-cons (λ f. cost_between cost (Some p) (at f)) e es
    ∙ ap (λ n. cost_between cost (Some p) (at e) + n) (sum_by-placed cost p at es)
    ∙ (elim (at e)
    as (λ o. cost_between cost (Some p) o + sum_by (cost p) (filter_map at es)
    ≡ sum_by (cost p) (cons_option o (filter_map at es)))
    [ None ↦ zero-add _ | Some q ↦ sym (sum_by-cons (cost p) q (filter_map at es)) ])

pub sum_pairs-placed : (cost : ℕ → ℕ → ℕ) (at : ℕ → Option ℕ) (es : List ℕ)
    → sum_pairs (λ e f. cost_between cost (at e) (at f)) es ≡ sum_pairs cost (filter_map at es)
sum_pairs-placed cost at [] = refl
sum_pairs-placed cost at (e ∷ es) =
    ap (λ n. sum_by (λ f. cost_between cost (at e) (at f)) es + n) (sum_pairs-placed cost at es)
    ∙ (elim (at e)
    as (λ o. sum_by (λ f. cost_between cost o (at f)) es + sum_pairs cost (filter_map at es)
    ≡ sum_pairs cost (cons_option o (filter_map at es))) [
      | None ↦ ap (λ n. n + sum_pairs cost (filter_map at es)) (sum_by-zeros es) ∙ zero-add _
      | Some p ↦ ap (λ n. n + sum_pairs cost (filter_map at es)) (sum_by-placed cost p at es)
    ])

pub regrouped : (cost : ℕ → ℕ → ℕ) (exams : ℕ) (pairs : List Pair) (at : ℕ → Option ℕ)
    (students : List ℕ)
    → AreOrdered exams pairs
    → AreStudents pairs students
    → sum_pairs_below exams (λ e f. shared_in pairs e f * cost_between cost (at e) (at f))
    ≡ sum_by (λ s. candidate_cost cost (periods_of pairs at s)) students
regrouped cost exams pairs at students h k =
    by_rows (λ e f. cost_between cost (at e) (at f)) exams pairs h
    ∙ by_students (λ e f. cost_between cost (at e) (at f)) pairs students k
    ∙ sum_by-same _ _ (λ s. sum_pairs-placed cost at (exams_of pairs s)) students

-- ---- enrolments as their list of pairs

pub are_ordered : (E : Enrolled) → ArePairsOf E (pairs_of E) → AreOrdered (length E) (pairs_of E)
are_ordered E is = record {
  in_order = chain_from_index ComesBefore (pairs_of E) is.ordered;
  exist = from_within (length E) 0 E (omega arith);
}

pub shared_pairs : (E : Enrolled) → ArePairsOf E (pairs_of E) → (e f : ℕ)
    → shared_in (pairs_of E) e f ≡ shared_students E e f
shared_pairs E is e f =
    (λ i. count_by (λ p. (p.exam == e) && is.members p.student f i) (pairs_of E)) ∙ is.sharing e f

-- the sum over all pairs of exams is the sum over the pairs in order
pub part_by_rows : (cost : ℕ → ℕ → ℕ) (E : Enrolled) (at : ℕ → Option ℕ) → ArePairsOf E (pairs_of E)
    → pair_part cost E at ≡ sum_pairs
    (later_cost (λ e f. cost_between cost (at e) (at f))) (pairs_of E)
part_by_rows cost E at is =
    (λ i. sum_pairs_below (length E)
    (λ e f. sym (shared_pairs E is e f) i * cost_between cost (at e) (at f)))
    ∙ by_rows (λ e f. cost_between cost (at e) (at f)) (length E) (pairs_of E) (are_ordered E is)

-- the sum over all pairs of exams is the sum over the students
pub regrouped_by_students : (cost : ℕ → ℕ → ℕ) (E : Enrolled) (at : ℕ → Option ℕ)
    (students : List ℕ)
    → ArePairsOf E (pairs_of E) → AreStudentsOf E students
    → pair_part cost E at ≡ sum_by
    (λ s. candidate_cost cost (periods_of (pairs_of E) at s)) students
regrouped_by_students cost E at students is k =
    (λ i. sum_pairs_below (length E)
    (λ e f. sym (shared_pairs E is e f) i * cost_between cost (at e) (at f)))
    ∙ regrouped cost (length E) (pairs_of E) at students (are_ordered E is)
    (record { once = chain_from_index _ students k.once; all = recursion_from_All _ (pairs_of E) k.all })
