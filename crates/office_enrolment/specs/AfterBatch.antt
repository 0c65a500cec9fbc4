-- The effect of a batch on enrolments: of one line, of all lines, and of those that act.
use Rattle.std.specs.Prelude.{◌≡◌, ℕ, ◌+◌, ◌⊎◌, Bool, nat_lt, nat_le, if◌then◌else◌, List, [], ◌∷◌, length, Option, Some, None, Result, Ok, Err}
use Rattle.std.specs.List.{list_all}
use Rattle.exam_terms.specs.Refusing.{◌>>=◌, unless}
use Rattle.exam_terms.specs.declared.limits.TheConstants.{MAX_PAIRS}
use Rattle.exam_model.specs.Enrolments.{Enrolled, pair_count}
use Rattle.exam_model.specs.declared.change.Change.{Change}
use Rattle.exam_draft.specs.declared.fault.EditFault.TheVariants.{NoSuch}
use Rattle.office_model.specs.BatchLines.{has_effect, after_change, enrolment_result, no_counts}
use Rattle.office_model.specs.declared.counts.Counts.{Counts}
use Rattle.office_model.specs.declared.fault.Refusal.TheVariants as refusal
use Rattle.office_model.specs.declared.fault.StoreFault.{StoreFault}
use Rattle.office_model.specs.declared.fault.StoreFault.TheVariants.{Refused, Store, TooMany}

-- whether a line names an exam that exists
abbrev pub names_exam : Enrolled → Change → Bool
names_exam E change = nat_lt change.exam (length E)

-- the enrolments after a line, refused if there would be too many pairs
abbrev pub after_line : Change → Enrolled → Result Enrolled StoreFault
after_line change E = do
  _ ← unless (nat_le (pair_count (after_change change E)) MAX_PAIRS) TooMany
  Ok (after_change change E)

-- the enrolments after a batch, with the counts of its lines: refused if any of them names an exam
-- that doesn't exist, before the first acts; then at the first that makes too many pairs
abbrev pub after_batch : List Change → Enrolled → Result (Counts × Enrolled) StoreFault
after_batch changes E = do
  _ ← unless (list_all (names_exam E) changes) (Refused (refusal.Edit NoSuch))
  enrolment_result changes E no_counts

-- the lines that change something at their turn, in file order
abbrev pub lines_with_effect : List Change → Enrolled → List Change
lines_with_effect [] E = []
lines_with_effect (change ∷ changes) E =
    if has_effect change E then change ∷ lines_with_effect changes (after_change change E)
    else lines_with_effect changes (after_change change E)

-- whether a line changes these enrolments
abbrev pub has_effect_on : Enrolled → Change → Bool
has_effect_on E change = has_effect change E

-- the new enrolments, or the old ones if there are none
abbrev pub current_enrolments : Option Enrolled → Enrolled → Enrolled
current_enrolments (Some E) before = E
current_enrolments None before = before

-- the counts of lines of which none acts
abbrev pub idle_counts : List Change → Counts
idle_counts changes = record { added = 0; dropped = 0; unchanged = length changes }

-- how many lines are counted
abbrev pub lines_in : Counts → ℕ
lines_in n = n.added + n.dropped + n.unchanged

-- a call returns this fault for such a judgement: its refusal, or out of memory instead
abbrev pub Refuses : {A : Type 0} → Result A StoreFault → StoreFault → Type 0
Refuses judged fault = (judged ≡ Err fault) ⊎ (fault ≡ Store)
