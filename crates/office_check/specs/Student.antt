-- The output of `check --why --student N`: the report, the summands of one student, and their sum.
use Rattle.std.specs.Prelude.{◌≡◌, ℕ, ◌++◌, ◌∷◌, [], List, Option, codes, decimal}
use Rattle.std.specs.List.{flat_map}
use Rattle.std.specs.Io.KnownBytes.{Appends}
use Rattle.exam_model.specs.Enrolments.{Enrolled}
use Rattle.exam_model.specs.Instance.{Session}
use Rattle.exam_model.specs.Timetable.{Placing}
use Rattle.exam_score.specs.Penalty.{personal_total}
use Rattle.exam_reasons.specs.Students.{OwnReasonsAddUp, own_reasons, own_share}
use Rattle.exam_reasons.specs.declared.reasons.PairKind.{PairKind}
use Rattle.exam_reasons.specs.declared.reasons.PairKind.TheVariants.{Day, Night, Row, Spread}
use Rattle.office_output.specs.Writing.{WritesFront}
use Rattle.office_check.specs.Check.{exit_status, report}
use Rattle.office_check.specs.Why.{pair_line}

-- the lines of a student's pairs of one kind
abbrev pub own_pairs_text : Session → Enrolled → Placing → ℕ → PairKind → List ℕ
own_pairs_text I E T s kind = flat_map (pair_line kind) (own_reasons I E T s kind)

-- the line of a student's sum
abbrev pub sum_line : ℕ → ℕ → List ℕ
sum_line s points = codes "student" ++ 32 ∷ decimal s ++ 32 ∷ decimal points ++ 10 ∷ []

-- the lines of a student's summands, in the order of the report's parts, and of their sum
abbrev pub own_text : Session → Enrolled → Placing → ℕ → List ℕ
own_text I E T s = (own_pairs_text I E T s Row ++ own_pairs_text I E T s Day
    ++ own_pairs_text I E T s Spread ++ own_pairs_text I E T s Night)
    ++ sum_line s (personal_total (own_share I E T s))

-- the report, the student's summands, which add up to the student's share of the penalty, and the
-- whole share are written, and the status is answered
pub record IsExplainedTo (I : Session) (E : Enrolled) (T : Placing) (s : ℕ)
    (old new : Option (List ℕ)) (answer : ℕ) : Type 0 where
  pub written : Appends old new (report I E T ++ own_text I E T s)
  pub add_up : OwnReasonsAddUp I E T s
  pub status : answer ≡ exit_status I E T

-- a front of the report, the student's summands and the whole share is written
abbrev pub ExplainsFrontTo : Session → Enrolled → Placing → ℕ → Option (List ℕ)
    → Option (List ℕ) → Type 0
ExplainsFrontTo I E T s old new = WritesFront old new (report I E T ++ own_text I E T s)
