use Rattle.std.proofs.Common.{◌≡◌, ◌++◌, length}
use Rattle.office_files.proofs.inputs.append.Given as goal

abbrev pub invariant-parts : goal.invariant-parts
invariant-parts l = l.text.items ++ l.left ≡ l.initial.text.items ++ l.initial.left

abbrev pub decreases-parts : goal.decreases-parts
decreases-parts l = length l.left
