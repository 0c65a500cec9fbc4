-- The enrolments of one student, and their summands.
use Rattle.std.proofs.lemmas.Grind.{common_steps}
use Rattle.std.specs.Prelude.{◌==◌}
use Rattle.std.specs.List.{AllByRecursion}
use Rattle.std.proofs.Common.{◌≡◌, ℕ, suc, ◌+◌, ◌-◌, ◌*◌, append-nil, append_assoc, replicate, set, take, ◌≤◌, ◌<◌, Bool, true, false, cond, ◌&&◌, List, [], ◌∷◌, ◌++◌, Option, Some, None, count_by, length, sum_by, refl, sym, ◌∙◌, ap, ap₂, arith, one-mul, zero-mul, add-zero, eqb-true, rules}
use Rattle.std.proofs.lemmas.Bool.{eq-eqb}
use Rattle.std.proofs.Math.Seq.{set-append_seam}
use Rattle.std.proofs.lemmas.List.{length-map, length-take-le, map-append, map_more, take_all}
use Rattle.std.proofs.lemmas.List.Elements.{All-from_recursion, filter-append}
use Rattle.std.proofs.lemmas.List.Sums.{sum_by-cons}
use Rattle.std.proofs.Math.ListN.{get_or-map}
use Rattle.exam_model.specs.Enrolments.{AreEnrolments, AreNumbers, Enrolled, IsAscending, has, has_number, pair_count, shared_students, students}
use Rattle.exam_model.specs.Fits.{period_of}
use Rattle.exam_model.specs.Instance.{Session}
use Rattle.exam_model.specs.Pairs.{Pair, pairs_at, pairs_from, pairs_of}
use Rattle.exam_model.specs.Timetable.{Placing}
use Rattle.exam_model.proofs.PairLemmas.{are_pairs}
use Rattle.exam_model.proofs.SameSet.{first_once, tail_ascends}
use Rattle.exam_score.specs.Kinds.{by_kind, cost_in}
use Rattle.exam_score.specs.Regrouping.{AreStudentsOf, candidate_cost, exams_of, pair_part, periods_of}
use Rattle.exam_score.specs.Track.{pair_parts}
use Rattle.exam_score.proofs.RegroupingLemmas.{regrouped_by_students}
use Rattle.std.specs.List.{filter_map}
use Rattle.std.proofs.Math.Bool.{or-false}
use Rattle.exam_reasons.specs.Reasons.{kind_of, pair_reason, pair_reasons}
use Rattle.exam_reasons.specs.Students.{AreOwn, OwnReasonsAddUp, own_enrolments, own_reason, own_reasons, own_share, own_students}
use Rattle.exam_reasons.specs.declared.reasons.PairKind.{PairKind}
use Rattle.exam_reasons.specs.declared.reasons.PairKind.TheVariants.{Day, Night, Row, Spread}
use Rattle.exam_reasons.specs.declared.reasons.PairReason.{PairReason}
use Rattle.exam_reasons.proofs.SumLemmas.{pairs_sum}

-- ---- the students of each exam

own_at : (s : ℕ) (E : Enrolled) (e : ℕ)
    → students (own_enrolments s E) e ≡ own_students s (students E e)
own_at s E e = get_or-map (own_students s) E e []

is_own : (s : ℕ) → has_number (s ∷ []) s ≡ true
is_own s = rw (eq-eqb s s refl) refl

shared_by : (s : ℕ) (b c : Bool)
    → count_by (λ t. has_number (cond c (s ∷ []) []) t) (cond b (s ∷ []) []) ≡ cond (b && c) 1 0
shared_by s false c = refl
shared_by s true c = grind (arith, common_steps, add-zero, is_own, sum_by-cons)

-- one student is shared by the exams that they sit
own_shared : (s : ℕ) (E : Enrolled) (e f : ℕ)
    → shared_students (own_enrolments s E) e f ≡ cond (has E s e && has E s f) 1 0
own_shared s E e f = search (rules, own_at, shared_by)

-- ---- the summands

abbrev of_pair : ℕ → ℕ → ℕ → ℕ → PairReason
of_pair e f n p = record { exam = e; other = f; students = n; points = p }

reason_by : (e f n w : ℕ) (b : Bool) → n ≡ cond b 1 0
    → ◌≡◌ {A = Option PairReason} (cond (n * w == 0) None (Some (of_pair e f n (n * w))))
    (cond (cond b w 0 == 0) None (Some (of_pair e f 1 (cond b w 0))))
reason_by e f n w true is = rw is (rw (one-mul w) refl)
reason_by e f n w false is = rw is (rw (zero-mul w) refl)

same_reason : (I : Session) (E : Enrolled) (T : Placing) (s : ℕ) (kind : PairKind) (e f : ℕ)
    → pair_reason I (own_enrolments s E) T kind e f ≡ own_reason I E T s kind e f
same_reason I E T s kind e f = grind (arith, common_steps, own_shared, reason_by)

same_reasons : (I : Session) (E : Enrolled) (T : Placing) (s : ℕ) (kind : PairKind)
    → pair_reasons I (own_enrolments s E) T kind ≡ own_reasons I E T s kind
same_reasons I E T s kind = grind (arith, common_steps, length-map, same_reason)

-- ---- the enrolments

own_ascends : (s : ℕ) (xs : List ℕ) → IsAscending (own_students s xs)
own_ascends s xs = grind (arith, common_steps)

own_numbers : (s : ℕ) (xs : List ℕ) → AreNumbers xs → AreNumbers (own_students s xs)
own_numbers s xs known t = grind (arith, common_steps, eqb-true, or-false)

own_few : (s : ℕ) (E : Enrolled) → pair_count (own_enrolments s E) ≤ length E
own_few s [] = omega arith
own_few s (xs ∷ rest) =
    let more = sum_by-cons length (own_students s xs) (own_enrolments s rest) in
    let one = by_test (has_number xs s) in
    let others = own_few s rest in
    omega (arith, more, one, others)
  where
    by_test : (b : Bool) → length (cond b (s ∷ []) []) ≤ 1
    by_test true = omega arith
    by_test false = omega arith

own_are : (s : ℕ) (E : Enrolled) → AreEnrolments E → AreEnrolments (own_enrolments s E)
own_are s E known = search (rules, length-map, own_ascends, own_at, own_few, own_numbers)

-- ---- the student's exams

abbrev is_pair_of : ℕ → Pair → Bool
is_pair_of s p = p.student == s

exams_with : (k s : ℕ) (xs : List ℕ) → IsAscending xs
    → exams_of (pairs_at k xs) s ≡ cond (has_number xs s) (k ∷ []) []
exams_with k s [] up = refl
exams_with k s (x ∷ xs) up =
    grind (
      arith,
      common_steps,
      exams_with k s xs (tail_ascends x xs up),
      eqb-true,
      first_once x xs
          up,
      tail_ascends x xs up,
    )

exams_alone : (k s : ℕ) (b : Bool)
    → exams_of (pairs_at k (cond b (s ∷ []) [])) s ≡ cond b (k ∷ []) []
exams_alone k s true = rw (eq-eqb s s refl) refl
exams_alone k s false = refl

exams_append : (ps qs : List Pair) (s : ℕ)
    → exams_of (ps ++ qs) s ≡ exams_of ps s ++ exams_of qs s
exams_append ps qs s = grind (arith, common_steps, filter-append, map-append)

exams_from : (k s : ℕ) (E : Enrolled) → ((e : ℕ) → e < length E → IsAscending (students E e))
    → exams_of (pairs_from k (own_enrolments s E)) s ≡ exams_of (pairs_from k E) s
exams_from k s [] up = refl
exams_from k s (xs ∷ rest) up =
    exams_append (pairs_at k (own_students s xs)) (pairs_from (k + 1) (own_enrolments s rest)) s
    ∙ ap₂ (λ first more. first ++ more)
    (exams_alone k s (has_number xs s) ∙ sym (exams_with k s xs (up 0 (omega arith))))
    (exams_from (k + 1) s rest (λ e lt. up (suc e) (omega arith)))
    ∙ sym (exams_append (pairs_at k xs) (pairs_from (k + 1) rest) s)

-- ---- the student's share

-- each of these pairs is the student's
abbrev each_own : ℕ → List Pair → Type 0
each_own s = AllByRecursion (λ p. has_number (s ∷ []) p.student ≡ true)

own_pairs : (k s : ℕ) (E : Enrolled) → each_own s (pairs_from k (own_enrolments s E))
own_pairs k s [] = tt
own_pairs k s (xs ∷ rest) = grind (arith, common_steps, own_pairs (k + 1) s rest, is_own)

only_student : (s : ℕ) (E : Enrolled) → AreStudentsOf (own_enrolments s E) (s ∷ [])
only_student s E = record {
  once = λ i j d lt within. absurd (omega arith);
  all = All-from_recursion _ (pairs_of (own_enrolments s E)) (own_pairs 0 s E);
}

own_part : (cost : ℕ → ℕ → ℕ) (E : Enrolled) (at : ℕ → Option ℕ) (s : ℕ) → AreEnrolments E
    → pair_part cost (own_enrolments s E) at
    ≡ candidate_cost cost (periods_of (pairs_of E) at s)
own_part cost E at s known =
    let own = own_enrolments s E in
    let share : ℕ → ℕ = λ t. candidate_cost cost (periods_of (pairs_of own) at t) in
    regrouped_by_students cost own at (s ∷ []) (are_pairs own (own_are s E known))
    (only_student s E)
    ∙ sum_by-cons share s [] ∙ add-zero (share s)
    ∙ ap (λ es. candidate_cost cost (filter_map at es)) (exams_from 0 s E known.ascending)

own_parts : (I : Session) (E : Enrolled) (T : Placing) (s : ℕ) → AreEnrolments E
    → pair_parts I (own_enrolments s E) T ≡ own_share I E T s
own_parts I E T s known =
    λ i. by_kind (λ k. own_part (cost_in I k) E (period_of T) s known i)

-- ---- all of it

pub are_own : (E own : Enrolled) (s : ℕ) → AreEnrolments E → own ≡ own_enrolments s E
    → AreOwn E s own
are_own E own s known is = record {
  enrolments = is;
  reasons = λ I T kind. rw is (same_reasons I E T s kind);
  share = λ I T. rw is (own_parts I E T s known);
}

own_sum : (I : Session) (E : Enrolled) (T : Placing) (s : ℕ) (kind : PairKind) → AreEnrolments E
    → sum_by (λ reason. reason.points) (own_reasons I E T s kind)
    ≡ candidate_cost (cost_in I (kind_of kind)) (periods_of (pairs_of E) (period_of T) s)
own_sum I E T s kind known =
    grind (
      arith,
      common_steps,
      own_part (cost_in I (kind_of kind)) E (period_of T) s known,
      pairs_sum I (own_enrolments s E) T kind,
      same_reasons I E T s kind,
    )

pub own_add_up : (I : Session) (E : Enrolled) (T : Placing) (s : ℕ) → AreEnrolments E
    → OwnReasonsAddUp I E T s
own_add_up I E T s known = record {
  row = own_sum I E T s Row known;
  day = own_sum I E T s Day known;
  spread = own_sum I E T s Spread known;
  night = own_sum I E T s Night known;
}

-- ---- one exam after another

-- the enrolments of one more exam
pub own_more : (s : ℕ) (E own : Enrolled) (k : ℕ) → k < length E
    → own ≡ own_enrolments s (take k E) ++ replicate (length E - k) []
    → set own k (own_students s (students E k))
    ≡ own_enrolments s (take (k + 1) E) ++ replicate (length E - (k + 1)) []
own_more s E own k lt is =
    let front : Enrolled = own_enrolments s (take k E) in
    let rest : Enrolled = replicate (length E - (k + 1)) [] in
    let x : List ℕ = own_students s (students E k) in
    let long : k ≡ length front =
    sym (length-map (take k E) (own_students s) ∙ length-take-le k E (omega arith)) in
    let more : length E - k ≡ suc (length E - (k + 1)) = omega arith in
    ap (λ xs. set xs k x) (is ∙ ap (λ n. front ++ replicate n []) more)
    ∙ ap (λ n. set (front ++ [] ∷ rest) n x) long
    ∙ set-append_seam front [] rest x
    ∙ sym (append_assoc front (x ∷ []) rest)
    ∙ ap (λ xs. xs ++ rest) (sym (map_more (own_students s) E k [] lt))

-- the enrolments of all exams
pub own_whole : (s : ℕ) (E own : Enrolled) (k : ℕ) → length E ≤ k
    → own ≡ own_enrolments s (take k E) ++ replicate (length E - k) [] → own ≡ own_enrolments s E
own_whole s E own k le is = grind (arith, common_steps, append-nil, take_all)
