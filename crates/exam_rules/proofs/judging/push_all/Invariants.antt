use Rattle.std.proofs.Common.{◌≡◌, ◌++◌, map, take}
use Rattle.exam_rules.specs.Breach.{breach}
use Rattle.exam_rules.proofs.judging.push_all.Given as goal

abbrev pub invariant-pairs : goal.invariant-pairs
invariant-pairs l =
    l.found.items ≡ l.fn.found.items ++ map (breach l.rule) (take l.pair-index l.pairs)
