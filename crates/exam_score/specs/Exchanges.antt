-- The old and the new amounts of an edit in a penalty.
use Rattle.std.specs.Prelude.{◌≡◌, ℕ, ◌+◌, ◌^◌, ◌≤◌, Bool, List, filter, IsPermutation}
use Rattle.std.specs.List.{list_any}
use Rattle.exam_model.specs.Enrolments.{Enrolled, AreEnrolments, has}
use Rattle.exam_model.specs.Fits.{Fits}
use Rattle.exam_model.specs.Instance.{Session}
use Rattle.exam_model.specs.Pairs.{Pair, pairs_of}
use Rattle.exam_model.specs.Timetable.{Placing, place_of}
use Rattle.exam_score.specs.Changes.{DiffersAtMost}
use Rattle.exam_score.specs.Folds.{Folded}
use Rattle.exam_score.specs.EditedCosts.{personal_sum}
use Rattle.exam_score.specs.Front.{AreSizes, front_by}
use Rattle.exam_score.specs.Kinds.{EachKind, amount}
use Rattle.exam_score.specs.Penalty.{Penalty, PersonalPenalty, pairs_in, penalty_sum, total_of, with_pairs}
use Rattle.exam_score.specs.Track.{exam_period, exam_room, track}
use Rattle.exam_score.specs.Touched.{is_touched, mixed_cost_if, sum_over_exams}

-- ---- the exchange

-- the share of an edit in the penalty of a timetable: that of its students, all together, of its
-- periods and rooms, and of its exams
abbrev pub edit_share : Session → Placing → List ℕ → (ℕ → ℕ → Bool) → List ℕ → PersonalPenalty
    → Penalty
edit_share I T edited touched sizes students =
    with_pairs students (mixed_cost_if I T touched)
    (sum_over_exams I edited (λ e. front_by I sizes (place_of T e) e))
    (sum_over_exams I edited (λ e. exam_period I (place_of T e)))
    (sum_over_exams I edited (λ e. exam_room I (place_of T e)))

-- the old amounts
abbrev pub old_amounts : Folded → List ℕ → Penalty
old_amounts fold sizes =
    edit_share fold.instance fold.earlier fold.edited
    (is_touched fold.edited fold.earlier fold.later) sizes
    (penalty_sum fold.before (personal_sum fold.instance fold.earlier fold.edited fold.current))

-- the new amounts
abbrev pub new_amounts : Folded → List ℕ → Penalty
new_amounts fold sizes =
    edit_share fold.instance fold.later fold.edited
    (is_touched fold.edited fold.earlier fold.later) sizes
    (penalty_sum fold.after (personal_sum fold.instance fold.later fold.edited fold.current))

-- the new parts of pairs are the old ones with the old amounts replaced by the new ones
abbrev pub AreExchanged : PersonalPenalty → PersonalPenalty → PersonalPenalty → PersonalPenalty
    → Type 0
AreExchanged old goes comes new =
    EachKind (λ k. amount new k + amount goes k ≡ amount old k + amount comes k)

-- the new penalty is the old one with the old amounts replaced by the new ones, in each part
pub record IsExchanged (old goes comes new : Penalty) : Type 0 where
  pub pairs : AreExchanged (pairs_in old) (pairs_in goes) (pairs_in comes) (pairs_in new)
  pub mixed : new.mixed + goes.mixed ≡ old.mixed + comes.mixed
  pub front : new.front + goes.front ≡ old.front + comes.front
  pub period : new.period + goes.period ≡ old.period + comes.period
  pub room : new.room + goes.room ≡ old.room + comes.room

-- there is no such penalty, because a part would be negative, or the total reaches 2^62
abbrev pub CannotExchange : Penalty → Penalty → Penalty → Type 0
CannotExchange old goes comes =
    (new : Penalty) → IsExchanged old goes comes new → 2 ^ 62 ≤ total_of new

-- ---- the fold of an edit

-- whether a student sits one of these exams
abbrev pub sits_among : Enrolled → List ℕ → ℕ → Bool
sits_among E exams s = list_any (λ e. has E s e) exams

-- the pairs of the students who sit one of these exams
abbrev pub pairs_concerned : Enrolled → List ℕ → List Pair
pairs_concerned E exams = filter (λ p. sits_among E exams p.student) (pairs_of E)

-- the fold took exactly the pairs of the students who sit an edited exam, and its arguments are
-- true
pub record IsOfEdit (fold : Folded) (E : Enrolled) (pairs : List Pair) (sizes : List ℕ)
    (old : Penalty) : Type 0 where
  pub enrolments : AreEnrolments E
  pub fits : Fits fold.instance E fold.later
  pub concerned : IsPermutation (pairs_concerned E fold.edited) pairs
  pub sized : AreSizes E sizes
  pub others : DiffersAtMost fold.edited fold.earlier fold.later
  pub scored : old ≡ track fold.instance E fold.earlier
