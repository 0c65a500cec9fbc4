-- A change of some students' exams changes their costs and the front load, and nothing else.
use Rattle.std.proofs.lemmas.Grind.{common_steps}
use Rattle.std.specs.List.{cons_option, AllByRecursion}
use Rattle.std.specs.Prelude.{slice_index}
use Rattle.std.proofs.Common.{◌≡◌, ◌≢◌, ℕ, suc, ◌+◌, ◌<◌, ◌≤◌, Bool, true, false, cond, ◌||◌, eqb, List, [], ◌∷◌, ◌++◌, length, take, map, filter_map, sum_by, None, refl, sym, ◌∙◌, ap, ap₂, arith, eq-eqb, eqb-true, ne_eqb, add-zero, true≢false, rules}
use Rattle.std.proofs.lemmas.Bool.{or_parts, or_right}
use Rattle.std.proofs.lemmas.List.{map-append}
use Rattle.std.proofs.lemmas.List.Elements.{filter-append, filter_map-append}
use Rattle.std.proofs.lemmas.List.Folds.{list_any-append}
use Rattle.std.proofs.lemmas.List.Sums.{sum_by-cons}
use Rattle.exam_lists.proofs.Chains.{IsChain}
use Rattle.exam_lists.proofs.Each.{each_weaker, each_append_parts}
use Rattle.exam_lists.proofs.Sums.{sum_by-same}
use Rattle.exam_model.specs.Enrolments.{Enrolled, AreEnrolments, IsAscending, has, has_number, students}
use Rattle.exam_model.specs.Fits.{Fits, period_of}
use Rattle.exam_model.specs.Instance.{Session, IsInstance}
use Rattle.exam_model.specs.PairCost.{cost_between}
use Rattle.exam_model.specs.Pairs.{Pair, pairs_at, pairs_from, pairs_of}
use Rattle.exam_model.specs.Timetable.{Placing}
use Rattle.exam_model.proofs.PairLemmas.{are_pairs}
use Rattle.exam_score.specs.Kinds.{Kind, cost_in, amount, by_kind}
use Rattle.exam_score.specs.Exchanges.{IsExchanged}
use Rattle.exam_score.specs.Penalty.{Penalty, PersonalPenalty, personal_total, penalty_sum}
use Rattle.exam_score.specs.Regrouping.{candidate_cost, exams_of, pair_part, periods_of}
use Rattle.exam_score.specs.Rescoring.{OthersUnchanged, each_once, sat_period, student_penalty, students_cost, students_penalty, students_share}
use Rattle.exam_score.specs.Track.{track}
use Rattle.exam_score.proofs.CostLemmas.{cost_in-small}
use Rattle.exam_score.proofs.ExchangeLemmas.{exchanged_once}
use Rattle.exam_score.proofs.KindLemmas.{each_kind}
use Rattle.exam_score.proofs.PairsLemmas.{part_small}
use Rattle.exam_score.proofs.RegroupingLemmas.{AreStudents, by_students, part_by_rows, sum_pairs-placed}
use Rattle.exam_model.proofs.PairLemmas.{pairs_more}

-- ---- the exams of one student

exams_of-append : (ps qs : List Pair) (s : ℕ)
    → exams_of (ps ++ qs) s ≡ exams_of ps s ++ exams_of qs s
exams_of-append ps qs s = grind (arith, filter-append, map-append)

first_once : (x : ℕ) (xs : List ℕ) → IsAscending (x ∷ xs) → has_number xs x ≡ false
first_once x xs up = below x xs (λ i lt. up 0 (suc i) (omega arith) (omega arith))
  where
    below : (x : ℕ) (xs : List ℕ) → ((i : ℕ) → i < length xs → x < slice_index xs i)
        → has_number xs x ≡ false
    below x [] less = refl
    below x (y ∷ ys) less =
        ap₂ (λ a b. a || b) (ne_eqb y x (λ e. omega (arith, less 0 (omega arith), e)))
        (below x ys (λ i lt. less (suc i) (omega arith)))

others_ascend : (x : ℕ) (xs : List ℕ) → IsAscending (x ∷ xs) → IsAscending xs
others_ascend x xs up i j lt within = up (suc i) (suc j) (omega arith) (omega arith)

-- of the pairs of one exam a student has at most one
exams_at : (e : ℕ) (xs : List ℕ) (s : ℕ) → IsAscending xs
    → exams_of (pairs_at e xs) s ≡ cond (has_number xs s) (e ∷ []) []
exams_at e [] s up = refl
exams_at e (x ∷ xs) s up =
    grind (arith, exams_at e xs s (others_ascend x xs up), eqb-true, first_once, others_ascend)

-- a student who sits the same exams has the same list of them
same_exams : (k : ℕ) (E F : Enrolled) (s : ℕ) → length E ≡ length F
    → ((e : ℕ) → e < length E → IsAscending (students E e))
    → ((e : ℕ) → e < length F → IsAscending (students F e)) → ((e : ℕ) → has F s e ≡ has E s e)
    → exams_of (pairs_from k F) s ≡ exams_of (pairs_from k E) s
same_exams k [] [] s len up up' same = refl
same_exams k [] (y ∷ ys) s len up up' same = absurd (omega arith)
same_exams k (x ∷ xs) [] s len up up' same = absurd (omega arith)
same_exams k (x ∷ xs) (y ∷ ys) s len up up' same =
    exams_of-append (pairs_at k y) (pairs_from (k + 1) ys) s
    ∙ ap₂ (λ a b. a ++ b)
    (exams_at k y s (up' 0 (omega arith)) ∙ ap (λ b. cond b (k ∷ []) []) (same 0)
    ∙ sym (exams_at k x s (up 0 (omega arith))))
    (same_exams (k + 1) xs ys s (omega arith) (λ e lt. up (suc e) (omega arith))
    (λ e lt. up' (suc e) (omega arith)) (λ e. same (suc e)))
    ∙ sym (exams_of-append (pairs_at k x) (pairs_from (k + 1) xs) s)

-- the periods of one more exam
pub periods_more : (E : Enrolled) (T : Placing) (s e : ℕ) → AreEnrolments E → e < length E
    → periods_of (pairs_of (take (e + 1) E)) (period_of T) s
    ≡ periods_of (pairs_of (take e E)) (period_of T) s ++ cons_option (sat_period E T s e) []
periods_more E T s e known lt =
    grind (arith, exams_at, exams_of-append, filter_map-append, pairs_more)

-- ---- lists without repeats

once_has : (xs : List ℕ) (s : ℕ) → has_number (each_once xs) s ≡ has_number xs s
once_has [] s = refl
once_has (x ∷ xs) s = grind (arith, once_has xs s, eqb-true)

none_equal : (x : ℕ) (ys : List ℕ) → has_number ys x ≡ false → AllByRecursion (λ y. x ≢ y) ys
none_equal x [] h = tt
none_equal x (y ∷ ys) h =
    let parts = or_parts (eqb y x) (has_number ys x) h in
    (λ e. true≢false (sym (eq-eqb y x (sym e)) ∙ parts.0), none_equal x ys parts.1)

once_differ : (xs : List ℕ) → IsChain (λ s t. s ≢ t) (each_once xs)
once_differ [] = tt
once_differ (x ∷ xs) = grind (arith, once_differ xs, IsChain, none_equal, once_has)

-- the students of pairs, and others
abbrev with_students : List Pair → List ℕ → List ℕ
with_students pairs others = map (λ (p : Pair). p.student) pairs ++ others

has_students : (ps : List Pair) (others : List ℕ)
    → AllByRecursion (λ p. has_number (with_students ps others) p.student ≡ true) ps
has_students [] others = tt
has_students (p ∷ ps) others = (
  ap (λ b. b || has_number (with_students ps others) p.student) (eq-eqb p.student p.student refl),
  each_weaker (λ q. has_number (with_students ps others) q.student ≡ true)
      (λ q. has_number (with_students (p ∷ ps) others) q.student ≡ true)
      (λ q h. or_right (eqb p.student q.student) (has_number (with_students ps others) q.student) h)
      ps (has_students ps others),
)

-- a list with all students of the pairs, made free of repeats
are_students : (ps : List Pair) (xs : List ℕ)
    → AllByRecursion (λ p. has_number xs p.student ≡ true) ps → AreStudents ps (each_once xs)
are_students ps xs all = record {
  once = once_differ xs;
  all = each_weaker (λ p. has_number xs p.student ≡ true)
      (λ p. has_number (each_once xs) p.student ≡ true)
      (λ p h. once_has xs p.student ∙ h) ps all;
}

-- ---- sums over students

-- sums that differ only at some of the students
sums_exchanged : (f g : ℕ → ℕ) (some more : List ℕ) → ((s : ℕ) → has_number some s ≡ false → g s ≡ f s)
    → sum_by g (each_once (more ++ some)) + sum_by f (each_once some)
    ≡ sum_by f (each_once (more ++ some)) + sum_by g (each_once some)
sums_exchanged f g some [] same = omega arith
sums_exchanged f g some (x ∷ xs) same =
    search (rules, sums_exchanged f g some xs same, list_any-append, or_parts, sum_by-cons)

-- a sum over some students is at most that over them and others
sum_within : (f : ℕ → ℕ) (some more : List ℕ)
    → sum_by f (each_once some) ≤ sum_by f (each_once (more ++ some))
sum_within f some [] = omega arith
sum_within f some (x ∷ xs) = grind (arith, sum_within f some xs, sum_by-cons)

-- a part is the cost of all students
part_of_students : (cost : ℕ → ℕ → ℕ) (E : Enrolled) (T : Placing) (xs : List ℕ) → AreEnrolments E
    → AllByRecursion (λ p. has_number xs p.student ≡ true) (pairs_of E)
    → pair_part cost E (period_of T) ≡ students_cost cost E T xs
part_of_students cost E T xs known all =
    let at = period_of T in
    part_by_rows cost E at (are_pairs E known)
    ∙ by_students (λ e f. cost_between cost (at e) (at f)) (pairs_of E) (each_once xs)
    (are_students (pairs_of E) xs all)
    ∙ sum_by-same _ _ (λ s. sum_pairs-placed cost at (exams_of (pairs_of E) s)) (each_once xs)

-- ---- a change of enrolments

-- the costs of the students whose exams changed are exchanged
part_exchanged : (cost : ℕ → ℕ → ℕ) (E F : Enrolled) (T : Placing) (changed : List ℕ)
    → AreEnrolments E → AreEnrolments F → length E ≡ length F → OthersUnchanged changed E F
    → pair_part cost F (period_of T) + students_cost cost E T changed
    ≡ pair_part cost E (period_of T) + students_cost cost F T changed
part_exchanged cost E F T changed known known' len same =
    let others : List ℕ = map (λ (p : Pair). p.student) (pairs_of E ++ pairs_of F) in
    let all = each_append_parts (λ p. has_number (others ++ changed) p.student ≡ true)
    (pairs_of E) (pairs_of F) (has_students (pairs_of E ++ pairs_of F) changed) in
    let before = part_of_students cost E T (others ++ changed) known all.0 in
    let after = part_of_students cost F T (others ++ changed) known' all.1 in
    let moved = sums_exchanged
    (λ s. candidate_cost cost (periods_of (pairs_of E) (period_of T) s))
    (λ s. candidate_cost cost (periods_of (pairs_of F) (period_of T) s)) changed others
    (λ s other. ap (λ es. candidate_cost cost (filter_map (period_of T) es))
    (same_exams 0 E F s len known.ascending known'.ascending (λ e. same s e other))) in
    omega (arith, before, after, moved)

-- and are at most the part
cost_small : (cost : ℕ → ℕ → ℕ) (E : Enrolled) (T : Placing) (changed : List ℕ) → AreEnrolments E
    → ((p q : ℕ) → cost p q ≤ 100000) → students_cost cost E T changed ≤ 4000000000000000
cost_small cost E T changed known small =
    let part = part_of_students cost E T (with_students (pairs_of E) changed) known
    (has_students (pairs_of E) changed) in
    let within = sum_within (λ s. candidate_cost cost (periods_of (pairs_of E) (period_of T) s))
    changed (map (λ (p : Pair). p.student) (pairs_of E)) in
    omega (arith, part, within, part_small cost E T known small)

-- the personal penalties of the students are small
pub students_small : (I : Session) (E : Enrolled) (T : Placing) (changed : List ℕ) → IsInstance I
    → AreEnrolments E → personal_total (students_penalty I E T changed) ≤ 16000000000000000
students_small I E T changed known enrolled = grind (arith, cost_in-small, cost_small, each_kind)

-- a part of their sum and one more student's penalty are small
pub sums_small : (sum more others rest all : PersonalPenalty) → penalty_sum sum rest ≡ all
    → penalty_sum more others ≡ rest → personal_total all ≤ 16000000000000000
    → personal_total sum + personal_total more ≤ 16000000000000000
sums_small sum more others rest all whole part small = grind (arith)

-- after all students the sum is the whole
pub sum_whole : (I : Session) (E : Enrolled) (T : Placing) (rest : List ℕ)
    (sum all : PersonalPenalty) → penalty_sum sum (students_penalty I E T rest) ≡ all → length rest ≡ 0
    → sum ≡ all
sum_whole I E T [] sum all whole none =
    (λ i. by_kind (λ k. sym (add-zero (amount sum k)) i)) ∙ whole
sum_whole I E T (s ∷ rest) sum all whole none = absurd (omega arith)

-- one more student
cost_more : (cost : ℕ → ℕ → ℕ) (E : Enrolled) (T : Placing) (s : ℕ) (others : List ℕ)
    → has_number others s ≡ false
    → candidate_cost cost (periods_of (pairs_of E) (period_of T) s) + students_cost cost E T others
    ≡ students_cost cost E T (s ∷ others)
cost_more cost E T s others new = grind (arith, common_steps, sum_by-cons)

pub penalty_more : (I : Session) (E : Enrolled) (T : Placing) (s : ℕ) (others : List ℕ)
    → has_number others s ≡ false
    → penalty_sum (student_penalty I E T s) (students_penalty I E T others)
    ≡ students_penalty I E T (s ∷ others)
penalty_more I E T s others new =
    λ i. by_kind (λ k. cost_more (cost_in I k) E T s others new i)

track_exchanged : (I : Session) (E F : Enrolled) (T : Placing) (changed : List ℕ)
    → AreEnrolments E → AreEnrolments F → length E ≡ length F → OthersUnchanged changed E F
    → IsExchanged (track I E T) (students_share I E T changed) (students_share I F T changed)
    (track I F T)
track_exchanged I E F T changed known known' len same = record {
  pairs = each_kind part;
  mixed = refl;
  front = omega arith;
  period = refl;
  room = refl;
}
  where
    part : (k : Kind)
        → pair_part (cost_in I k) F (period_of T) + students_cost (cost_in I k) E T changed
        ≡ pair_part (cost_in I k) E (period_of T) + students_cost (cost_in I k) F T changed
    part k = part_exchanged (cost_in I k) E F T changed known known' len same

-- so the result is the new penalty
pub rescored : (I : Session) (E F : Enrolled) (T : Placing) (changed : List ℕ)
    (old goes comes new : Penalty)
    → AreEnrolments E → AreEnrolments F → Fits I E T → Fits I F T → OthersUnchanged changed E F
    → goes ≡ students_share I E T changed → comes ≡ students_share I F T changed
    → IsExchanged old goes comes new → old ≡ track I E T → new ≡ track I F T
rescored I E F T changed old goes comes new known known' fits fits' same goes_is comes_is made is =
    grind (arith, exchanged_once, track_exchanged)
