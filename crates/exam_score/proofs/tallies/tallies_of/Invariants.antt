use Rattle.exam_score.specs.Tallies.{AreCounted}
use Rattle.exam_score.specs.TallyLinks.{AreLinked}
use Rattle.exam_score.proofs.tallies.tallies_of.Given as goal

-- the best filing so far counts all
abbrev pub invariant-loop-more : goal.invariant-loop-more
invariant-loop-more l = record {
  counted : AreCounted l.enrolments l.sittings l.best.tallies.items;
  linked : AreLinked l.best.tallies.items;
}
