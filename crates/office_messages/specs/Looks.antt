-- The result of looking at the bytes of a message that is being received.
use Rattle.std.specs.Prelude.{ℕ, ◌<◌, ◌≤◌, List, length, take}
use Rattle.office_messages.specs.HeadEnds.{HasEnd}
use Rattle.office_messages.specs.StreamFaults.{Unfinished, FaultAt}
use Rattle.office_messages.specs.Stream.{max_head}
use Rattle.office_messages.specs.Heads.{HeadAt}
use Rattle.office_messages.specs.declared.look.Beginning.{Beginning}
use Rattle.office_messages.specs.declared.look.Beginning.TheVariants.{Whole, More, Faulty}
use Rattle.office_messages.specs.declared.look.Stage.{Stage}
use Rattle.office_messages.specs.declared.look.Stage.TheVariants.{Searching, Reading}

-- the facts about the message at the front of the bytes, before they are looked at
abbrev pub Knows : List ℕ → Stage → Type 0
Knows bytes (Searching n) = (n ≤ length bytes) × (n < max_head) × ¬ (HasEnd (take n bytes))
Knows bytes (Reading x) = HeadAt bytes x

-- the meaning of the result of looking at the bytes
abbrev pub MeansBeginning : List ℕ → Beginning → Type 0
MeansBeginning bytes (Whole x) = HeadAt bytes x × (x.body.end ≤ length bytes)
MeansBeginning bytes (More stage) = Unfinished bytes × Knows bytes stage
MeansBeginning bytes (Faulty bad) = FaultAt bad.fault bad.form bytes
