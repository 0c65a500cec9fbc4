-- The verdict on a solution, its printed line, and the output of `check --json`.
use Rattle.std.specs.Prelude.{◌≡◌, ℕ, ◌++◌, ◌∷◌, [], List, Option, codes, decimal, length, map}
use Rattle.std.specs.List.{flat_map}
use Rattle.std.specs.Io.KnownBytes.{Appends}
use Rattle.serde_json.specs.Data.{Data, array, member, no_members, number, object, string, unsigned}
use Rattle.serde_json.specs.View.{items_of}
use Rattle.serde_json.specs.Written.{compact_text}
use Rattle.exam_model.specs.Enrolments.{Enrolled}
use Rattle.exam_model.specs.Instance.{Session}
use Rattle.exam_model.specs.Timetable.{Placing}
use Rattle.exam_rules.specs.Breaches.{breaches_of}
use Rattle.exam_rules.specs.declared.breach.Breach.{Breach}
use Rattle.exam_score.specs.Penalty.{total_of}
use Rattle.exam_score.specs.Track.{track}
use Rattle.office_files.specs.SolutionText.{SolutionText}
use Rattle.office_output.specs.Writing.{WritesFront}
use Rattle.office_reports.specs.Reports.{rule_name}
use Rattle.office_check.specs.Check.{exit_status}
use Rattle.office_check.specs.Names.{printed_name}
use Rattle.office_check.specs.declared.judging.LineForm.{LineForm}
use Rattle.office_check.specs.declared.judging.LineForm.TheVariants.{Json, Plain}
use Rattle.office_check.specs.declared.judging.Verdict.{Verdict}

-- a timetable's breaches and its penalty, both as `check` reports them
pub record IsVerdict (I : Session) (E : Enrolled) (T : Placing) (verdict : Verdict) : Type 0 where
  pub breaches : verdict.breaches.items ≡ breaches_of I E T
  pub parts : verdict.parts ≡ track I E T

-- the text has a reading, and this is the verdict on it
pub record IsVerdictOn (I : Session) (E : Enrolled) (solution : List ℕ) (verdict : Verdict)
    : Type 0 where
  pub placing : Placing
  pub spells : SolutionText solution I placing
  pub judged : IsVerdict I E placing verdict

-- the number of breaches, the total, and the parts of the penalty in the order of the report
abbrev pub numbers_of : Verdict → List ℕ
numbers_of v = length v.breaches.items ∷ total_of v.parts ∷ v.parts.row ∷ v.parts.day ∷ v.parts.spread
    ∷ v.parts.night ∷ v.parts.mixed ∷ v.parts.front ∷ v.parts.period ∷ v.parts.room ∷ []

-- a number and the space after it
abbrev pub column : ℕ → List ℕ
column n = decimal n ++ 32 ∷ []

-- these numbers, and the printed path to the end of the line
abbrev pub plain_line : List ℕ → Verdict → List ℕ
plain_line path v = flat_map column (numbers_of v) ++ printed_name path ++ 10 ∷ []

-- a member whose value is a number
abbrev pub json_number : ℕ → Data
json_number n = number (unsigned n)

-- a breach with the names of its numbers
abbrev pub breach_data : Breach → Data
breach_data b = object
    (member (codes "exam") (json_number b.exam)
    (member (codes "other") (json_number b.other)
    (member (codes "rule") (string (rule_name b.rule)) no_members)))

-- the same with names, and each breach
abbrev pub verdict_data : List ℕ → Verdict → Data
verdict_data path v = object
    (member (codes "breaches") (json_number (length v.breaches.items))
    (member (codes "broken") (array (items_of (map breach_data v.breaches.items)))
    (member (codes "day") (json_number v.parts.day)
    (member (codes "front") (json_number v.parts.front)
    (member (codes "mixed") (json_number v.parts.mixed)
    (member (codes "night") (json_number v.parts.night)
    (member (codes "path") (string path)
    (member (codes "period") (json_number v.parts.period)
    (member (codes "room") (json_number v.parts.room)
    (member (codes "row") (json_number v.parts.row)
    (member (codes "spread") (json_number v.parts.spread)
    (member (codes "total") (json_number (total_of v.parts)) no_members))))))))))))

-- the same as a line of JSON
abbrev pub json_line : List ℕ → Verdict → List ℕ
json_line path v = compact_text (verdict_data path v) ++ 10 ∷ []

-- the line in one form or the other
abbrev pub verdict_line : LineForm → List ℕ → Verdict → List ℕ
verdict_line Plain path v = plain_line path v
verdict_line Json path v = json_line path v

-- ---- the output of `check --json`

-- the verdict on the solution of this path is written as a line of JSON, and the status is answered
pub record WritesVerdict (I : Session) (E : Enrolled) (T : Placing) (path : List ℕ)
    (old new : Option (List ℕ)) (answer : ℕ) : Type 0 where
  pub verdict : Verdict
  pub judged : IsVerdict I E T verdict
  pub written : Appends old new (json_line path verdict)
  pub status : answer ≡ exit_status I E T

-- a front of that line is written
abbrev pub WritesVerdictFront : Session → Enrolled → Placing → (path : List ℕ)
    → (old new : Option (List ℕ)) → Type 0
WritesVerdictFront I E T path old new =
    (verdict : Verdict) × IsVerdict I E T verdict × WritesFront old new (json_line path verdict)
