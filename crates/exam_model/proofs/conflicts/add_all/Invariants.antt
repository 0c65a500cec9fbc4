use Rattle.std.proofs.Common.{◌≡◌, length, map, take}
use Rattle.exam_model.specs.Conflicts.{AreZeros, conflicts_below}
use Rattle.exam_model.specs.Links.{AreLinked, pair_at}
use Rattle.exam_model.specs.Pairs.{pairs_of}
use Rattle.exam_model.proofs.conflicts.add_all.Given as goal

-- the conflicts of the exams so far, and the links of their enrolments; nothing is counted
abbrev pub invariant-loop-other : goal.invariant-loop-other
invariant-loop-other l = record {
  found : l.found.items ≡ conflicts_below l.rolls l.other;
  linked : AreLinked l.links.list.items l.links.last.items;
  zero : AreZeros l.counts;
  count : length l.counts ≡ length l.rolls;
  pairs : map pair_at l.links.list.items ≡ pairs_of (take l.other l.rolls);
}
