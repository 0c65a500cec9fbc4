use Rattle.std.proofs.Common.{◌≡◌, ◌≤◌, length}
use Rattle.exam_terms.specs.Texts.{trim_end}
use Rattle.exam_terms.proofs.texts.trim_end.Given as goal

abbrev pub invariant-loop-last : goal.invariant-loop-last
invariant-loop-last l =
    record { same : trim_end l.left ≡ trim_end l.text; within : length l.left ≤ length l.text }

abbrev pub decreases-loop-last : goal.decreases-loop-last
decreases-loop-last l = length l.left
