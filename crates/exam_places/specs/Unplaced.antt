-- An unplaced exam: what it breaks and adds in each period, and at each place.
use Rattle.std.specs.Prelude.{◌≡◌, ℕ, ◌+◌, ◌<◌, ◌≤◌, ◌^◌, List, [], ◌∷◌, length, map, Option, Some, None, slice_set}
use Rattle.std.specs.List.{range_with_len}
use Rattle.exam_terms.specs.declared.place.Place.{Place}
use Rattle.exam_model.specs.Fits.{Fits}
use Rattle.exam_model.specs.Timetable.{Placing}
use Rattle.exam_rules.specs.declared.breach.Breach.{Breach}
use Rattle.exam_rules.specs.declared.breach.BreachRule.{BreachRule}
use Rattle.exam_rules.specs.Breaches.{first_among, least_breach_of}
use Rattle.exam_score.specs.Front.{AreSizes}
use Rattle.exam_score.specs.Penalty.{total_of}
use Rattle.exam_score.specs.Track.{track}
use Rattle.exam_places.specs.declared.listing.PeriodFacts.{PeriodFacts}
use Rattle.exam_places.specs.declared.place_row.PlaceRow.{PlaceRow}
use Rattle.exam_places.specs.declared.tables.ExamTables.{ExamTables}
use Rattle.exam_places.specs.declared.unplaced_exam.UnplacedExam.{UnplacedExam}
use Rattle.exam_places.specs.Answers.{place}
use Rattle.exam_places.specs.Groups.{early_rules, late_rules}
use Rattle.exam_places.specs.Places.{PlaceAnswer, breach_or}
use Rattle.exam_places.specs.PeriodTable.{IsPeriodTable}
use Rattle.exam_places.specs.PlaceTable.{AreKeepers, IsPlaceTable}
use Rattle.exam_places.specs.Shares.{period_share, place_share}

-- the exam exists, and the timetable fits the session and doesn't place the exam
pub record IsUnplaced (u : UnplacedExam) : Type 0 where
  pub fits : Fits u.instance.now u.enrolments.now u.timetable.now
  pub exists : u.exam < length u.instance.now.exams
  pub unplaced : slice_set u.timetable.now u.exam None ≡ u.timetable.now

-- the timetable with the exam at a place
abbrev pub with_place : UnplacedExam → Place → Placing
with_place u at = slice_set u.timetable.now u.exam (Some at)

-- the first breach of some rules that names the exam at a place
abbrev pub first_breach : UnplacedExam → Place → List BreachRule → Option Breach
first_breach u at rules =
    first_among u.instance.now u.enrolments.now (with_place u at) (u.exam ∷ []) rules

-- the least breach that names the exam at a place
abbrev pub least_breach : UnplacedExam → Place → Option Breach
least_breach u at = least_breach_of u.instance.now u.enrolments.now (with_place u at) (u.exam ∷ [])

-- the total penalty without the exam
abbrev pub total_without : UnplacedExam → ℕ
total_without u = total_of (track u.instance.now u.enrolments.now u.timetable.now)

-- what the exam adds in the period of a place
abbrev pub share_of : UnplacedExam → Place → ℕ
share_of u at = period_share u.instance.now u.enrolments.now u.timetable.now u.exam at

-- the answer at a place by the penalty but for what the room adds
abbrev pub answer_by : UnplacedExam → ℕ → Place → PlaceAnswer
answer_by u total at =
    breach_or (least_breach u at) (total + place_share u.instance.now u.timetable.now u.exam at)

-- the row of a place by that
abbrev pub row_by : UnplacedExam → ℕ → ℕ → ℕ → PlaceRow
row_by u total p r = record { period = p; room = r; answer = answer_by u total (place p r) }

-- the rows of a period by the penalty without the exam
abbrev pub rows_by : UnplacedExam → ℕ → ℕ → List PlaceRow
rows_by u without p =
    map (row_by u (without + share_of u (place p 0)) p)
    (range_with_len 0 (length u.instance.now.rooms))

-- the timetable of the unplaced exam is this one without the exam
pub record IsWithout (u : UnplacedExam) (T : Placing) : Type 0 where
  pub cleared : u.timetable.now ≡ slice_set T u.exam None
  pub fits : Fits u.instance.now u.enrolments.now T

-- what the exam meets in each period and at each place, by all exams, and the exams' sizes
pub record AreTables (u : UnplacedExam) (tables : ExamTables) : Type 0 where
  pub periods : IsPeriodTable u (length u.instance.now.exams) tables.periods.items
  pub places : IsPlaceTable u (length u.instance.now.exams) tables.places.items
  pub keepers : AreKeepers u.instance.now tables.keepers.items
  pub sizes : AreSizes u.enrolments.now tables.sizes.items

-- the first breaches of the rules on periods, and a penalty that is small
pub record ArePeriodFacts (u : UnplacedExam) (p : ℕ) (facts : PeriodFacts) : Type 0 where
  pub early : facts.early ≡ first_breach u (place p 0) early_rules
  pub late : facts.late ≡ first_breach u (place p 0) late_rules
  pub small : facts.total ≤ 2 ^ 62 + 2 ^ 60
