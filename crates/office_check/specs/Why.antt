-- The output of `check --why`: the report, and then a line for each summand of the penalty.
use Rattle.std.specs.Prelude.{◌≡◌, ℕ, ◌++◌, ◌∷◌, [], List, Option, codes, decimal}
use Rattle.std.specs.List.{flat_map}
use Rattle.std.specs.Io.KnownBytes.{Appends}
use Rattle.exam_model.specs.Enrolments.{Enrolled}
use Rattle.exam_model.specs.Fits.{Fits}
use Rattle.exam_model.specs.Instance.{Session}
use Rattle.exam_model.specs.Timetable.{Placing}
use Rattle.exam_score.specs.Front.{AreSizes}
use Rattle.exam_reasons.specs.AddUp.{ReasonsAddUp}
use Rattle.exam_reasons.specs.Pairs.{HoldsPairs}
use Rattle.exam_reasons.specs.Reasons.{front_reasons, mixed_reasons, pair_reasons, period_reasons, room_reasons}
use Rattle.exam_reasons.specs.declared.reasons.ExamReason.{ExamReason}
use Rattle.exam_reasons.specs.declared.reasons.MixedReason.{MixedReason}
use Rattle.exam_reasons.specs.declared.reasons.PairKind.{PairKind}
use Rattle.exam_reasons.specs.declared.reasons.PairKind.TheVariants.{Day, Night, Row, Spread}
use Rattle.exam_reasons.specs.declared.reasons.PairReason.{PairReason}
use Rattle.exam_reasons.specs.declared.reasons.PlaceReason.{PlaceReason}
use Rattle.office_output.specs.Writing.{WritesFront}
use Rattle.office_check.specs.Check.{exit_status, report}
use Rattle.office_check.specs.declared.explaining.Subject.{Subject}

-- ---- the lines

-- the name of a kind of pairs
abbrev pub kind_name : PairKind → List ℕ
kind_name Row = codes "row"
kind_name Day = codes "day"
kind_name Spread = codes "spread"
kind_name Night = codes "night"

-- a pair of exams: the kind, the exams, the students who sit both, the points
abbrev pub pair_line : PairKind → PairReason → List ℕ
pair_line kind r = kind_name kind ++ 32 ∷ decimal r.exam ++ 32 ∷ decimal r.other
    ++ 32 ∷ decimal r.students ++ 32 ∷ decimal r.points ++ 10 ∷ []

-- a room and period: how many different durations, the points
abbrev pub mixed_line : MixedReason → List ℕ
mixed_line r = codes "mixed" ++ 32 ∷ decimal r.room ++ 32 ∷ decimal r.period
    ++ 32 ∷ decimal r.durations ++ 32 ∷ decimal r.points ++ 10 ∷ []

-- an exam of the front load: its students, the points
abbrev pub front_line : ExamReason → List ℕ
front_line r = codes "front" ++ 32 ∷ decimal r.exam ++ 32 ∷ decimal r.students
    ++ 32 ∷ decimal r.points ++ 10 ∷ []

-- a period or a room: how many exams it has, the points
abbrev pub place_line : List ℕ → PlaceReason → List ℕ
place_line name r = name ++ 32 ∷ decimal r.number ++ 32 ∷ decimal r.exams
    ++ 32 ∷ decimal r.points ++ 10 ∷ []

-- the lines of all pairs of one kind
abbrev pub pairs_text : Session → Enrolled → Placing → PairKind → List ℕ
pairs_text I E T kind = flat_map (pair_line kind) (pair_reasons I E T kind)

-- the lines of all pairs, kind by kind
abbrev pub all_pairs_text : Session → Enrolled → Placing → List ℕ
all_pairs_text I E T = pairs_text I E T Row ++ pairs_text I E T Day ++ pairs_text I E T Spread
    ++ pairs_text I E T Night

-- the lines of all summands, in the order of the report's parts
abbrev pub why_text : Session → Enrolled → Placing → List ℕ
why_text I E T = all_pairs_text I E T ++ flat_map mixed_line (mixed_reasons I T)
    ++ flat_map front_line (front_reasons I E T)
    ++ flat_map (place_line (codes "period")) (period_reasons I T)
    ++ flat_map (place_line (codes "room")) (room_reasons I T)

-- ---- the output

-- the report and all summands of the penalty, which add up to the report's numbers, are written, and
-- the status is answered
pub record IsExplained (I : Session) (E : Enrolled) (T : Placing) (old new : Option (List ℕ))
    (answer : ℕ) : Type 0 where
  pub written : Appends old new (report I E T ++ why_text I E T)
  pub add_up : ReasonsAddUp I E T
  pub status : answer ≡ exit_status I E T

-- a front of the report and all summands is written
abbrev pub ExplainsFront : Session → Enrolled → Placing → Option (List ℕ) → Option (List ℕ)
    → Type 0
ExplainsFront I E T old new = WritesFront old new (report I E T ++ why_text I E T)

-- ---- the buffer

-- the parts of a timetable's judgement fit each other
pub record IsSubject (s : Subject) : Type 0 where
  pub fits : Fits s.instance.now s.enrolments.now s.timetable.now
  pub sizes : AreSizes s.enrolments.now s.sizes.now
  pub pairs : HoldsPairs s.instance.now s.enrolments.now s.timetable.now s.pairs.now

-- a text is added: what was written and what is in the buffer are together as before, and the text
pub record Adds (old new : Option (List ℕ)) (before after added : List ℕ) : Type 0 where
  pub written : List ℕ
  pub appends : Appends old new written
  pub same : written ++ after ≡ before ++ added

-- a front of what was in the buffer, and of a text behind it, is written
pub record AddsFront (old new : Option (List ℕ)) (before added : List ℕ) : Type 0 where
  pub front : WritesFront old new (before ++ added)
