-- Pairs of exams and breaches, and the order in which they are listed.
use Rattle.std.specs.Prelude.{◌≡◌, ℕ, ◌<◌, Bool, true, false, ◌&&◌, ◌==◌, List, [], ◌∷◌, map, filter, Option, Some, None}
use Rattle.std.specs.List.{flat_map, list_any, range_with_len}
use Rattle.std.specs.Ordering.{nat_cmp, ordering_then}
use Rattle.std.specs.declared.cmp.Ordering.{Ordering}
use Rattle.exam_rules.specs.declared.breach.Breach.{Breach}
use Rattle.exam_rules.specs.declared.breach.BreachRule.{BreachRule}
use Rattle.exam_rules.specs.declared.breach.BreachRule.TheVariants.{Duration, Clash, Capacity, After, Coincidence, Exclusion, RoomExclusive}
use Rattle.exam_rules.specs.declared.exam_pair.ExamPair.{ExamPair}

-- the rules in the order of the competition's table
abbrev pub all_rules : List BreachRule
all_rules =
    Duration ∷ (Clash ∷ (Capacity ∷ (After ∷ (Coincidence ∷ (Exclusion ∷ (RoomExclusive ∷ []))))))

-- a rule's place in that table
abbrev pub rank_of : BreachRule → ℕ
rank_of Duration = 0
rank_of Clash = 1
rank_of Capacity = 2
rank_of After = 3
rank_of Coincidence = 4
rank_of Exclusion = 5
rank_of RoomExclusive = 6

-- the order of breaches: by rule, then by exam, then by the other exam
abbrev pub breach_cmp : Breach → Breach → Ordering
breach_cmp a b =
    ordering_then (nat_cmp (rank_of a.rule) (rank_of b.rule))
    (ordering_then (nat_cmp a.exam b.exam) (nat_cmp a.other b.other))

-- the order of pairs: by exam, then by the other exam
abbrev pub exam_pair_cmp : ExamPair → ExamPair → Ordering
exam_pair_cmp a b = ordering_then (nat_cmp a.exam b.exam) (nat_cmp a.other b.other)

-- the pair of two exams
abbrev pub pair : ℕ → ℕ → ExamPair
pair e f = record { exam = e; other = f }

-- whether a pair is that of e and f
abbrev pub is_pair : ℕ → ℕ → ExamPair → Bool
is_pair e f p = (p.exam == e) && (p.other == f)

-- whether there is a pair, and it is that of e and f
abbrev pub is_some_pair : ℕ → ℕ → Option ExamPair → Bool
is_some_pair e f None = false
is_some_pair e f (Some p) = is_pair e f p

-- all pairs of the exams below a number, in order
abbrev pub exam_pairs : ℕ → List ExamPair
exam_pairs n = flat_map (λ e. map (pair e) (range_with_len 0 n)) (range_with_len 0 n)

-- the pairs that pass a test, in order
abbrev pub passing_pairs : (ℕ → ℕ → Bool) → ℕ → List ExamPair
passing_pairs test n = filter (λ p. test p.exam p.other) (exam_pairs n)

-- the list has exactly the pairs that pass a test, in any order and with repeats
pub record HasJust (test : ℕ → ℕ → Bool) (n : ℕ) (found : List ExamPair) : Type 0 where
  pub members : (e f : ℕ) → list_any (is_pair e f) found ≡ test e f
  pub exist : (e f : ℕ) → test e f ≡ true → (e < n) × (f < n)

-- a pair of exams as a breach of a rule
abbrev pub breach : BreachRule → ExamPair → Breach
breach r p = record { rule = r; exam = p.exam; other = p.other }
