-- The rules in four groups, in their order.
use Rattle.std.specs.Prelude.{List, [], ◌∷◌, Option}
use Rattle.std.specs.Option.{option_or}
use Rattle.exam_rules.specs.declared.breach.BreachRule.{BreachRule}
use Rattle.exam_rules.specs.declared.breach.BreachRule.TheVariants.{Duration, Clash, Capacity, After, Coincidence, Exclusion, RoomExclusive}

-- the two rules on periods that come before the rule on a room's capacity
abbrev pub early_rules : List BreachRule
early_rules = Duration ∷ (Clash ∷ [])

abbrev pub capacity_rules : List BreachRule
capacity_rules = Capacity ∷ []

-- the three rules of lines, which depend on periods only
abbrev pub late_rules : List BreachRule
late_rules = After ∷ (Coincidence ∷ (Exclusion ∷ []))

abbrev pub exclusive_rules : List BreachRule
exclusive_rules = RoomExclusive ∷ []

-- the first breach of the four groups
abbrev pub in_order : {X : Type 0} → Option X → Option X → Option X → Option X → Option X
in_order early capacity late exclusive =
    option_or early (option_or capacity (option_or late exclusive))
