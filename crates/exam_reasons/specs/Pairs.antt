-- The pairs of exams that cost something.
use Rattle.std.specs.Prelude.{◌≡◌, ℕ, ◌+◌, ◌<◌, Bool, List, All, filter, length, nat_lt}
use Rattle.std.specs.List.{flat_map}
use Rattle.exam_model.specs.Conflicts.{conflicts_of}
use Rattle.exam_model.specs.Enrolments.{Enrolled, shared_students}
use Rattle.exam_model.specs.Fits.{period_of}
use Rattle.exam_model.specs.Instance.{Session}
use Rattle.exam_model.specs.PairCost.{cost_between}
use Rattle.exam_model.specs.Timetable.{Placing}
use Rattle.exam_model.specs.declared.conflicts.Conflict.{Conflict}
use Rattle.exam_score.specs.Kinds.{cost_in}
use Rattle.exam_reasons.specs.Lists.{listed}
use Rattle.exam_reasons.specs.Reasons.{kind_of, pair_reason, pair_reasons}
use Rattle.exam_reasons.specs.declared.reasons.PairKind.{PairKind}
use Rattle.exam_reasons.specs.declared.reasons.PairKind.TheVariants.{Day, Night, Row, Spread}

-- what the periods of two exams cost in a part
abbrev pub periods_cost : Session → Placing → PairKind → Conflict → ℕ
periods_cost I T kind c =
    cost_between (cost_in I (kind_of kind)) (period_of T c.exam) (period_of T c.other)

-- whether the periods of two exams cost something in any part
abbrev pub is_costly : Session → Placing → Conflict → Bool
is_costly I T c = nat_lt 0 (periods_cost I T Row c + periods_cost I T Day c
    + periods_cost I T Spread c + periods_cost I T Night c)

-- the pairs of exams that share students and cost something, by the greater exam and then by the
-- smaller one
abbrev pub costly_pairs : Session → Enrolled → Placing → List Conflict
costly_pairs I E T = filter (is_costly I T) (conflicts_of E)

-- two exams that exist, with the number of students who sit both
pub record IsCounted (E : Enrolled) (c : Conflict) : Type 0 where
  pub exam : c.exam < length E
  pub other : c.other < length E
  pub students : c.students ≡ shared_students E c.exam c.other

-- the summands of these pairs are those of all pairs, and their students are counted
pub record HoldsPairs (I : Session) (E : Enrolled) (T : Placing) (pairs : List Conflict)
    : Type 0 where
  pub reasons : (kind : PairKind)
      → flat_map (λ c. listed (pair_reason I E T kind c.exam c.other)) pairs
      ≡ pair_reasons I E T kind
  pub counted : All (IsCounted E) pairs
