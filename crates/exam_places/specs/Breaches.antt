-- The first breaches that name an exam, by what it meets at a place.
use Rattle.std.specs.Prelude.{ℕ, Bool, not, ◌||◌, nat_lt, if◌then◌else◌, Option, Some, None}
use Rattle.exam_rules.specs.declared.breach.Breach.{Breach}
use Rattle.exam_rules.specs.declared.breach.BreachRule.{BreachRule}
use Rattle.exam_rules.specs.declared.breach.BreachRule.TheVariants.{Clash, RoomExclusive}
use Rattle.exam_rules.specs.Breach.{breach, pair}

-- the breach of a rule by one exam
abbrev pub own_breach : BreachRule → ℕ → Breach
own_breach r e = breach r (pair e e)

-- the clash of an exam with another one, the smaller first
abbrev pub clash_with : ℕ → ℕ → Breach
clash_with e f = if nat_lt f e then breach Clash (pair f e) else breach Clash (pair e f)

-- the exam's breach with the first other one, if the exam keeps its room
abbrev pub keeping_breach : ℕ → Bool → Option ℕ → Option Breach
keeping_breach e keeps None = None
keeping_breach e keeps (Some f) = if keeps then Some (breach RoomExclusive (pair e f)) else None

-- the first keeper's breach with the exam, if the keeper's number is smaller or the exam keeps no
-- room; else the exam's own
abbrev pub exclusive_breach : ℕ → Bool → Option ℕ → Option ℕ → Option Breach
exclusive_breach e keeps first None = keeping_breach e keeps first
exclusive_breach e keeps first (Some k) =
    if nat_lt k e || not keeps then Some (breach RoomExclusive (pair k e))
    else keeping_breach e keeps first
