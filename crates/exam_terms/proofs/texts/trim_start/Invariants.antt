use Rattle.std.proofs.Common.{◌≡◌, ◌≤◌, length}
use Rattle.exam_terms.specs.Texts.{trim_start}
use Rattle.exam_terms.proofs.texts.trim_start.Given as goal

abbrev pub invariant-loop-first : goal.invariant-loop-first
invariant-loop-first l =
    record { same : trim_start l.left ≡ trim_start l.text; within : length l.left ≤ length l.text }

abbrev pub decreases-loop-first : goal.decreases-loop-first
decreases-loop-first l = length l.left
