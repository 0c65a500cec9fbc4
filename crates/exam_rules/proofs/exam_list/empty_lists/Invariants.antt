use Rattle.std.proofs.Common.{◌≡◌, []}
use Rattle.std.specs.Prelude.{replicate}
use Rattle.exam_rules.proofs.exam_list.empty_lists.Given as goal

abbrev pub invariant-lists : goal.invariant-lists
invariant-lists l = l.lists.items ≡ replicate l.counter []
