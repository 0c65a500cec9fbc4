-- The lines of each section after those before them, and their limits.
use Rattle.std.specs.Prelude.{ℕ, nat_lt, List, length, Result}
use Rattle.exam_terms.specs.declared.limits.TheConstants.{MAX_RULES}
use Rattle.exam_terms.specs.Refusing.{◌>>=◌, unless}
use Rattle.exam_model.specs.declared.parts.Period.{Period}
use Rattle.exam_terms.specs.declared.place.Place.{Place}
use Rattle.exam_model.specs.declared.parts.Room.{Room}
use Rattle.exam_model.specs.declared.rules.PeriodRule.{PeriodRule}
use Rattle.exam_model.specs.declared.rules.RoomRule.{RoomRule}
use Rattle.office_files.specs.Items.{period_in, room_in, period_rule_in, room_rule_in, place_in}
use Rattle.office_files.specs.declared.counts.Counts.{Counts}
use Rattle.office_files.specs.declared.fault.FaultKind.{FaultKind}
use Rattle.office_files.specs.declared.fault.FaultKind.TheVariants.{OutOfRange, CountMismatch}

-- a line of the section of periods
abbrev pub period_line : Counts → List Period → List (List ℕ) → Result Period FaultKind
period_line counts before fields = period_in fields

-- a line of the section of rooms
abbrev pub room_line : Counts → List Room → List (List ℕ) → Result Room FaultKind
room_line counts before fields = room_in fields

-- a line of the rules on periods, which are limited in number
abbrev pub period_rule_line : Counts → List PeriodRule → List (List ℕ) → Result PeriodRule FaultKind
period_rule_line counts before fields = do
  _ ← unless (nat_lt (length before) MAX_RULES) OutOfRange
  period_rule_in counts.exams fields

-- a line of the rules on rooms, with the same limit
abbrev pub room_rule_line : Counts → List RoomRule → List (List ℕ) → Result RoomRule FaultKind
room_rule_line counts before fields = do
  _ ← unless (nat_lt (length before) MAX_RULES) OutOfRange
  room_rule_in counts.exams fields

-- a line of a solution: the place of the next exam, if there is one
abbrev pub place_line : Counts → List Place → List (List ℕ) → Result Place FaultKind
place_line counts before fields = do
  _ ← unless (nat_lt (length before) counts.exams) CountMismatch
  place_in counts fields
