use Rattle.std.proofs.Common.{◌≡◌, ◌++◌, take, map}
use Rattle.exam_model.specs.Links.{AreLinked, pair_at}
use Rattle.exam_model.specs.Pairs.{pairs_at}
use Rattle.exam_model.proofs.links.Links.add.Given as goal

-- the links with those of the students so far
abbrev pub invariant-loop-student : goal.invariant-loop-student
invariant-loop-student l = record {
  linked : AreLinked l.self.list.items l.self.last.items;
  pairs : map pair_at l.self.list.items
      ≡ map pair_at l.fn.self.list.items ++ pairs_at l.exam (take l.student-index l.students);
}
