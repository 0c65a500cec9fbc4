-- The summands of one student, and what they add up to.
use Rattle.std.specs.Prelude.{◌≡◌, ◌&&◌, ◌==◌, ◌∷◌, [], ℕ, List, None, Option, Some, if◌then◌else◌, length, map, sum_by}
use Rattle.exam_model.specs.Enrolments.{Enrolled, has, has_number}
use Rattle.exam_model.specs.Fits.{period_of}
use Rattle.exam_model.specs.Instance.{Session}
use Rattle.exam_model.specs.PairCost.{cost_between}
use Rattle.exam_model.specs.Pairs.{pairs_of}
use Rattle.exam_model.specs.Timetable.{Placing}
use Rattle.exam_score.specs.Kinds.{cost_in}
use Rattle.exam_score.specs.Penalty.{PersonalPenalty}
use Rattle.exam_score.specs.Personal.{personal_of}
use Rattle.exam_score.specs.Regrouping.{periods_of}
use Rattle.exam_score.specs.Track.{pair_parts}
use Rattle.exam_reasons.specs.Lists.{all_below, listed}
use Rattle.exam_reasons.specs.Reasons.{kind_of, pair_reasons}
use Rattle.exam_reasons.specs.declared.reasons.PairKind.{PairKind}
use Rattle.exam_reasons.specs.declared.reasons.PairKind.TheVariants.{Day, Night, Row, Spread}
use Rattle.exam_reasons.specs.declared.reasons.PairReason.{PairReason}

-- what two exams cost a student: the cost of their periods, if the student sits both
abbrev pub own_points : Session → Enrolled → Placing → ℕ → PairKind → ℕ → ℕ → ℕ
own_points I E T s kind e f = if has E s e && has E s f
    then cost_between (cost_in I (kind_of kind)) (period_of T e) (period_of T f) else 0

-- the summand of two exams for a student, if they cost something
abbrev pub own_reason : Session → Enrolled → Placing → ℕ → PairKind → ℕ → ℕ → Option PairReason
own_reason I E T s kind e f = if own_points I E T s kind e f == 0 then None else Some (record {
  exam = e;
  other = f;
  students = 1;
  points = own_points I E T s kind e f;
})

-- all summands of a student of one kind, by the greater exam and then by the smaller one
abbrev pub own_reasons : Session → Enrolled → Placing → ℕ → PairKind → List PairReason
own_reasons I E T s kind = all_below (length E) (λ f.
    all_below f (λ e. listed (own_reason I E T s kind e f)))

-- a student's share of the penalty: the cost of the periods of their exams
abbrev pub own_share : Session → Enrolled → Placing → ℕ → PersonalPenalty
own_share I E T s = personal_of I.periods I.weights (periods_of (pairs_of E) (period_of T) s)

-- the points of a student's summands of each kind add up to their share
pub record OwnReasonsAddUp (I : Session) (E : Enrolled) (T : Placing) (s : ℕ) : Type 0 where
  pub row : sum_by (λ reason. reason.points) (own_reasons I E T s Row) ≡ (own_share I E T s).row
  pub day : sum_by (λ reason. reason.points) (own_reasons I E T s Day) ≡ (own_share I E T s).day
  pub spread : sum_by (λ reason. reason.points) (own_reasons I E T s Spread)
      ≡ (own_share I E T s).spread
  pub night : sum_by (λ reason. reason.points) (own_reasons I E T s Night)
      ≡ (own_share I E T s).night

-- ---- the enrolments of one student

-- of an exam's students only this one
abbrev pub own_students : ℕ → List ℕ → List ℕ
own_students s students = if has_number students s then s ∷ [] else []

-- the enrolments of one student, without those of the others
abbrev pub own_enrolments : ℕ → Enrolled → Enrolled
own_enrolments s E = map (own_students s) E

-- these enrolments are those of one student, so their summands are the student's
pub record AreOwn (E : Enrolled) (s : ℕ) (own : Enrolled) : Type 0 where
  pub enrolments : own ≡ own_enrolments s E
  pub reasons : (I : Session) (T : Placing) (kind : PairKind)
      → pair_reasons I own T kind ≡ own_reasons I E T s kind
  pub share : (I : Session) (T : Placing) → pair_parts I own T ≡ own_share I E T s
