-- The values of a line are within the limits of an instance.
use Rattle.std.proofs.lemmas.Grind.{common_steps}
use Rattle.std.proofs.Common.{◌≡◌, ℕ, ◌-◌, ◌<◌, ◌≤◌, Bool, true, false, List, [], ◌∷◌, length, Option, Some, None, Result, Ok, Err, refl, subst, arith}
use Rattle.std.specs.Prelude.{All, if◌then◌else◌}
use Rattle.std.proofs.lemmas.Bool.{ltb-true}
use Rattle.std.proofs.lemmas.List.Elements.{All-head, All-tail}
use Rattle.exam_lists.proofs.Results.{ok_same}
use Rattle.exam_calendar.specs.Dates.{is_civil}
use Rattle.exam_calendar.specs.declared.date.Date.{Date}
use Rattle.exam_terms.specs.Refusing.{◌>>=◌, else_err}
use Rattle.exam_model.specs.Limits.{IsAmount, ExamInLimits, PeriodInLimits, RoomInLimits, WeightsInLimits}
use Rattle.exam_model.specs.Instance.{PeriodRuleExists, RoomRuleExists}
use Rattle.exam_model.specs.declared.parts.Period.{Period}
use Rattle.exam_terms.specs.declared.place.Place.{Place}
use Rattle.exam_model.specs.declared.parts.Room.{Room}
use Rattle.exam_model.specs.declared.parts.Weights.{Weights}
use Rattle.exam_model.specs.declared.rules.PeriodRule.{PeriodRule}
use Rattle.exam_model.specs.declared.rules.RoomRule.{RoomRule}
use Rattle.office_files.specs.Dates.{or_fault, digits_of, date_if_any, date_of, time_of}
use Rattle.office_files.specs.ExamLines.{ExamLine, exam_line, exam_of}
use Rattle.office_files.specs.Fields.{first_field, other_fields, end_of_fields, split_once}
use Rattle.office_files.specs.Items.{period_in, room_in}
use Rattle.office_files.specs.RuleWords.{rule_by}
use Rattle.office_files.specs.ItemLines.{period_rule_line, room_rule_line, place_line}
use Rattle.office_files.specs.Numbers.{number}
use Rattle.office_files.specs.Weightings.{weight_word, amount_in, front_in, weighting_by}
use Rattle.office_files.specs.Weightings.{weighting_line}
use Rattle.office_files.specs.Weights.{with_weighting, with_weightings, no_weights}
use Rattle.office_files.specs.declared.counts.Counts.{Counts}
use Rattle.office_files.specs.declared.rule_word.RuleWord.{RuleWord}
use Rattle.office_files.specs.declared.rule_word.RuleWord.TheVariants as rule
use Rattle.office_files.specs.declared.weightings.Weighting.{Weighting}
use Rattle.office_files.specs.declared.weightings.Weighting.TheVariants as said
use Rattle.office_files.specs.declared.weightings.WeightWord.{WeightWord}
use Rattle.office_files.specs.declared.weightings.WeightWord.TheVariants as word
use Rattle.office_files.specs.declared.fault.FaultKind.{FaultKind}
use Rattle.office_files.specs.declared.fault.FaultKind.TheVariants.{BadDate}
use Rattle.office_files.proofs.ReadingLaws.{bind_ok, unless_ok, number_le}

-- an exam's duration is within a day
pub exam_line_within : (before : List ExamLine) (fields : List (List ℕ)) (x : ExamLine) →
    exam_line before fields ≡ Ok x →
    ExamInLimits (exam_of x)
exam_line_within before fields x e = grind (arith, common_steps, bind_ok, number_le, ok_same)

-- the result of a reading with its fault replaced
or_fault_ok : {A : Type 0} (fault : FaultKind) (r : Result A FaultKind) (x : A) →
    or_fault fault r ≡ Ok x → r ≡ Ok x
or_fault_ok fault (Ok y) x e = cc
or_fault_ok fault (Err d) x e = cc

digits_by : (fault : FaultKind) (b : Bool) (r : Result ℕ FaultKind) (n : ℕ) →
    ◌≡◌ {A = Result ℕ FaultKind} (if b then or_fault fault r else Err fault) (Ok n) → r ≡ Ok n
digits_by fault true r n e = or_fault_ok fault r n e
digits_by fault false r n e = cc

digits_le : (fault : FaultKind) (least most limit : ℕ) (text : List ℕ) (n : ℕ) →
    digits_of fault least most limit text ≡ Ok n →
    n ≤ limit
digits_le fault least most limit text n e = grind (arith, common_steps, digits_by, number_le)

else_ok : {A F : Type 0} (fault : F) (o : Option A) (x : A) → else_err fault o ≡ Ok x → o ≡ Some x
else_ok fault (Some y) x e = cc
else_ok fault None x e = cc

date_is_civil : (made : Date) (civil : Bool) → is_civil made ≡ civil → (date : Date) →
    (if civil then Some made else None) ≡ Some date → is_civil date ≡ true
date_is_civil made true e date is = grind (arith, common_steps)
date_is_civil made false e date is = cc

date_within : (text : List ℕ) (date : Date) → date_of text ≡ Ok date → is_civil date ≡ true
date_within text date e =
    let front = bind_ok (else_err BadDate (split_once 58 text)) _ date e in
    let back = bind_ok (else_err BadDate (split_once 58 front.0.1)) _ date front.2 in
    let day = bind_ok (digits_of BadDate 1 2 99 front.0.0) _ date back.2 in
    let month = bind_ok (digits_of BadDate 1 2 99 back.0.0) _ date day.2 in
    let year = bind_ok (digits_of BadDate 4 4 9999 back.0.1) _ date month.2 in
    let made : Date = record {
      year = year.0;
      month = month.0;
      day = day.0;
    } in
    date_is_civil made (is_civil made) refl date
    (else_ok BadDate (date_if_any year.0 month.0 day.0) date year.2)

time_within : (text : List ℕ) (time : ℕ × ℕ × ℕ) → time_of text ≡ Ok time →
    (time.0 ≤ 23) × (time.1 ≤ 59) × (time.2 ≤ 59)
time_within text time e = grind (arith, common_steps, bind_ok, digits_le, ok_same)

-- a period is of a date of the calendar, at a time of day
pub period_within : (fields : List (List ℕ)) (p : Period) → period_in fields ≡ Ok p →
    PeriodInLimits p
period_within fields p e =
    let two = other_fields (other_fields fields) in
    let date = bind_ok (date_of (first_field fields)) _ p e in
    let time = bind_ok (time_of (first_field (other_fields fields))) _ p date.2 in
    let minutes = bind_ok (number 1440 (first_field two)) _ p time.2 in
    let penalty = bind_ok (number 100000 (first_field (other_fields two))) _ p minutes.2 in
    let end = bind_ok (end_of_fields (other_fields (other_fields two))) _ p penalty.2 in
    let same = ok_same _ _ p refl end.2 in
    let clock = time_within (first_field (other_fields fields)) time.0 time.1 in
    subst PeriodInLimits same (
      date_within (first_field fields) date.0 date.1,
      clock.0,
      clock.1,
      clock.2,
      number_le 1440 (first_field two) minutes.0 minutes.1,
      number_le 100000 (first_field (other_fields two)) penalty.0 penalty.1,
    )

-- a room's capacity and penalty
pub room_within : (fields : List (List ℕ)) (r : Room) → room_in fields ≡ Ok r → RoomInLimits r
room_within fields r e = grind (arith, common_steps, bind_ok, number_le, ok_same)

rule_exists : (n : ℕ) (w : RuleWord) (a b : ℕ) → a < n → b < n → PeriodRuleExists n (rule_by w a b)
rule_exists n rule.After a b one other = (one, other)
rule_exists n rule.Coincidence a b one other = (one, other)
rule_exists n rule.Exclusion a b one other = (one, other)

-- a number of at most n - 1 is below n
among : (n : ℕ) (text : List ℕ) (k : ℕ) → 1 ≤ n → number (n - 1) text ≡ Ok k → k < n
among n text k some e = let within = number_le (n - 1) text k e in omega arith

-- both exams of a rule exist, and there is room for it
pub period_rule_within : (counts : Counts) (before : List PeriodRule) (fields : List (List ℕ))
    (r : PeriodRule) →
    1 ≤ counts.exams → period_rule_line counts before fields ≡ Ok r →
    (length before < 5000) × PeriodRuleExists counts.exams r
period_rule_within counts before fields r some e =
    grind (arith, common_steps, among, bind_ok, ltb-true, ok_same, rule_exists, unless_ok)

-- the exam of a rule on its room exists, and there is room for the rule
pub room_rule_within : (counts : Counts) (before : List RoomRule) (fields : List (List ℕ))
    (r : RoomRule) →
    1 ≤ counts.exams → room_rule_line counts before fields ≡ Ok r →
    (length before < 5000) × RoomRuleExists counts.exams r
room_rule_within counts before fields r some e =
    grind (arith, common_steps, among, bind_ok, ltb-true, ok_same, unless_ok)

-- the numbers of a weighting
abbrev pub HasAmounts : Weighting → Type 0
HasAmounts (said.Row n) = IsAmount n
HasAmounts (said.Day n) = IsAmount n
HasAmounts (said.Spread n) = IsAmount n
HasAmounts (said.Mixed n) = IsAmount n
HasAmounts (said.Front n k w) = IsAmount n × IsAmount k × IsAmount w
HasAmounts (said.Night n) = IsAmount n

amount_within : (fields : List (List ℕ)) (n : ℕ) → amount_in fields ≡ Ok n → IsAmount n
amount_within fields n e = grind (arith, common_steps, bind_ok, number_le, ok_same)

front_within : (fields : List (List ℕ)) (s : Weighting) → front_in fields ≡ Ok s → HasAmounts s
front_within fields s e = grind (arith, common_steps, bind_ok, number_le, ok_same)

-- one number after a word
one_within : (make : ℕ → Weighting) (fields : List (List ℕ)) (s : Weighting) →
    ((n : ℕ) → IsAmount n → HasAmounts (make n)) →
    (amount_in fields >>= λ n. Ok (make n)) ≡ Ok s → HasAmounts s
one_within make fields s each_is e = grind (arith, common_steps, amount_within, bind_ok, ok_same)

weighting_within : (w : WeightWord) (fields : List (List ℕ)) (s : Weighting) →
    weighting_by w fields ≡ Ok s → HasAmounts s
weighting_within word.Row fields s e = one_within said.Row fields s (λ n is. is) e
weighting_within word.Day fields s e = one_within said.Day fields s (λ n is. is) e
weighting_within word.Spread fields s e = one_within said.Spread fields s (λ n is. is) e
weighting_within word.Mixed fields s e = one_within said.Mixed fields s (λ n is. is) e
weighting_within word.Front fields s e = front_within fields s e
weighting_within word.Night fields s e = one_within said.Night fields s (λ n is. is) e

-- a weighting's numbers
pub weighting_line_within : (counts : Counts) (before : List Weighting) (fields : List (List ℕ))
    (s : Weighting) →
    weighting_line counts before fields ≡ Ok s → HasAmounts s
weighting_line_within counts before fields s e =
    grind (arith, common_steps, bind_ok (weight_word (first_field fields)) _ s e, weighting_within)

-- a weighting keeps the weights within their limits
with_within : (w : Weights) (s : Weighting) → HasAmounts s → WeightsInLimits w →
    WeightsInLimits (with_weighting w s)
with_within w (said.Row n) is limits =
    (is, limits.1, limits.2, limits.3, limits.4, limits.5, limits.6, limits.7)
with_within w (said.Day n) is limits =
    (limits.0, is, limits.2, limits.3, limits.4, limits.5, limits.6, limits.7)
with_within w (said.Spread n) is limits =
    (limits.0, limits.1, is, limits.3, limits.4, limits.5, limits.6, limits.7)
with_within w (said.Mixed n) is limits =
    (limits.0, limits.1, limits.2, is, limits.4, limits.5, limits.6, limits.7)
with_within w (said.Front n k v) is limits =
    (limits.0, limits.1, limits.2, limits.3, is.0, is.1, is.2, limits.7)
with_within w (said.Night n) is limits =
    (limits.0, limits.1, limits.2, limits.3, limits.4, limits.5, limits.6, is)

all_with_within : (w : Weights) (ss : List Weighting) → All HasAmounts ss → WeightsInLimits w →
    WeightsInLimits (with_weightings w ss)
all_with_within w [] all limits = limits
all_with_within w (s ∷ ss) all limits =
    all_with_within (with_weighting w s) ss (All-tail HasAmounts s ss all)
    (with_within w s (All-head HasAmounts s ss all) limits)

-- the weights that lines say are in their limits
pub weights_within : (ss : List Weighting) → All HasAmounts ss →
    WeightsInLimits (with_weightings no_weights ss)
weights_within ss all = grind (arith, common_steps, all_with_within)

-- the place's period and room are below these counts
abbrev pub PlaceExists : Counts → Place → Type 0
PlaceExists counts p = (p.period < counts.periods) × (p.room < counts.rooms)

-- a line's period and room exist
pub place_within : (counts : Counts) (before : List Place) (fields : List (List ℕ)) (p : Place) →
    1 ≤ counts.periods → 1 ≤ counts.rooms → place_line counts before fields ≡ Ok p →
    PlaceExists counts p
place_within counts before fields p periods rooms e =
    grind (arith, common_steps, among, bind_ok, ok_same)
