-- A fold over the pairs of the students concerned by an edit, as contracts see it.
use Rattle.std.specs.Prelude.{◌≡◌, ℕ, ◌+◌, ◌*◌, ◌<◌, ◌≤◌, ◌⊎◌, List, [], ◌++◌, length, map, Option, Some, None, All, AllPairs}
use Rattle.exam_terms.specs.declared.limits.TheConstants.{MAX_AMOUNT, MAX_PAIRS}
use Rattle.exam_model.specs.Instance.{Session}
use Rattle.exam_model.specs.Pairs.{Pair}
use Rattle.exam_model.specs.Timetable.{Placing}
use Rattle.exam_score.specs.Penalty.{PersonalPenalty}
use Rattle.exam_score.specs.EditedCosts.{personal_sum}
use Rattle.exam_score.specs.Kinds.{EachKind, amount}

-- ---- the order of the pairs

-- p has a smaller student than q, or the same student and a smaller exam
abbrev pub ComesEarlier : Pair → Pair → Type 0
ComesEarlier p q = (p.student < q.student) ⊎ ((p.student ≡ q.student) × (p.exam < q.exam))

-- ---- the state

-- the arguments of a fold, how many pairs it took, the share of the edited exams in the closed
-- students' personal penalties in either timetable, and the pairs of the open student
pub record Folded : Type 0 where
  pub instance : Session
  pub earlier : Placing
  pub later : Placing
  pub edited : List ℕ
  pub count : ℕ
  pub before : PersonalPenalty
  pub after : PersonalPenalty
  pub current : List Pair

-- a fold with these arguments
pub record IsFoldOf (fold : Folded) (I : Session) (old new : Placing)
    (edited : List ℕ) : Type 0 where
  pub session : fold.instance ≡ I
  pub before : fold.earlier ≡ old
  pub after : fold.later ≡ new
  pub exams : fold.edited ≡ edited

-- the list of pairs represented by a fold's count, its sums and its open pairs
pub record RepresentsPairs (fold : Folded) (pairs : List Pair) : Type 0 where
  pub closed : List Pair
  pub parts : pairs ≡ closed ++ fold.current
  pub in_order : AllPairs ComesEarlier pairs
  pub count : fold.count ≡ length pairs
  pub before : fold.before ≡ personal_sum fold.instance fold.earlier fold.edited closed
  pub after : fold.after ≡ personal_sum fold.instance fold.later fold.edited closed
  pub others : All (λ p. All (λ q. p.student < q.student) fold.current) closed

-- the pair comes after all of the open student's
abbrev pub CanFollow : Folded → Pair → Type 0
CanFollow fold pair = All (λ p. ComesEarlier p pair) fold.current

-- the pairs of a student, if there is one, and these exams
abbrev pub pairs_sat : Option ℕ → List ℕ → List Pair
pairs_sat None exams = []
pairs_sat (Some s) exams = map (λ e. record { exam = e; student = s }) exams

-- ---- bounds

-- each part of a student's share is small, by the number of their exams
abbrev pub IsSmall : PersonalPenalty → ℕ → Type 0
IsSmall p exams = EachKind (λ k. amount p k ≤ exams * (MAX_PAIRS * MAX_AMOUNT))

-- after that many pairs, each part leaves room for the cost of the open student's exams
abbrev pub LeavesRoom : PersonalPenalty → ℕ → ℕ → Type 0
LeavesRoom p exams count = EachKind (λ k.
    amount p k + exams * (MAX_PAIRS * MAX_AMOUNT) ≤ count * (MAX_PAIRS * MAX_AMOUNT))

-- the invariant of every fold
pub record IsBounded (count : ℕ) (before after : PersonalPenalty) (student : Option ℕ)
    (exams : List ℕ) : Type 0 where
  pub few : count ≤ MAX_PAIRS
  pub open_few : length exams ≤ count
  pub room_before : LeavesRoom before (length exams) count
  pub room_after : LeavesRoom after (length exams) count
  pub started : student ≡ None → (count ≡ 0) × (exams ≡ [])
  pub continues_front : exams ≡ [] → count ≡ 0
