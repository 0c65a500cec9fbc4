use Rattle.std.proofs.Common.{◌≡◌, ◌+◌, ◌≤◌, length}
use Rattle.office_files.specs.Lines.{line_count}
use Rattle.office_files.proofs.lines.line_count.Given as goal

abbrev pub invariant-loop-left : goal.invariant-loop-left
invariant-loop-left l = record {
  same : l.lines + line_count l.left ≡ line_count l.source;
  within : l.lines + length l.left ≤ 4194304;
}

abbrev pub decreases-loop-left : goal.decreases-loop-left
decreases-loop-left l = length l.left
