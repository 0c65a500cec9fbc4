-- The texts of the two reports, line by line; 10 ends a line and 32 is a space.
use Rattle.std.specs.Prelude.{ℕ, ◌++◌, ◌∷◌, [], List, length, codes, decimal}
use Rattle.std.specs.List.{flat_map}
use Rattle.exam_rules.specs.declared.breach.Breach.{Breach}
use Rattle.exam_rules.specs.declared.breach.BreachRule.{BreachRule}
use Rattle.exam_rules.specs.declared.breach.BreachRule.TheVariants as rule
use Rattle.exam_score.specs.Penalty.{Penalty, total_of}

-- a rule's name
abbrev pub rule_name : BreachRule → List ℕ
rule_name rule.Duration = codes "Duration"
rule_name rule.Clash = codes "Clash"
rule_name rule.Capacity = codes "Capacity"
rule_name rule.After = codes "After"
rule_name rule.Coincidence = codes "Coincidence"
rule_name rule.Exclusion = codes "Exclusion"
rule_name rule.RoomExclusive = codes "RoomExclusive"

-- a breach's line: the rule, then its two exams
abbrev pub breach_line : Breach → List ℕ
breach_line b = rule_name b.rule ++ 32 ∷ decimal b.exam ++ 32 ∷ decimal b.other ++ 10 ∷ []

-- a line of a name and its number
abbrev pub number_line : List ℕ → ℕ → List ℕ
number_line name n = name ++ 32 ∷ decimal n ++ 10 ∷ []

-- the violation report: the number of breaches, then a line for each, in their order
abbrev pub violation_text : List Breach → List ℕ
violation_text breaches =
    number_line (codes "breaches") (length breaches) ++ flat_map breach_line breaches

-- the penalty report: a line for each part of the penalty, then one for the total
abbrev pub penalty_text : Penalty → List ℕ
penalty_text p =
    number_line (codes "two in a row") p.row
    ++ number_line (codes "two in a day") p.day
    ++ number_line (codes "period spread") p.spread
    ++ number_line (codes "over night") p.night
    ++ number_line (codes "mixed durations") p.mixed
    ++ number_line (codes "front load") p.front
    ++ number_line (codes "period penalty") p.period
    ++ number_line (codes "room penalty") p.room
    ++ number_line (codes "total") (total_of p)
