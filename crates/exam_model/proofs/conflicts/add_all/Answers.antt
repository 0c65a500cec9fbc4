use Rattle.std.proofs.Common.{◌∙◌, ◌≡◌, ◌++◌, [], length, sym, subst, ap, ap₂, arith, add-one}
use Rattle.std.proofs.lemmas.List.{get_or_read}
use Rattle.exam_model.specs.Conflicts.{AreShared, conflicts_below, conflicts_with}
use Rattle.exam_model.specs.Pairs.{pairs_at}
use Rattle.exam_model.proofs.LinkLemmas.{links_few}
use Rattle.exam_model.proofs.PairLemmas.{pairs_more}
use Rattle.exam_model.proofs.conflicts.add_all.Goals as goal

pub add-requires-clause-few : goal.add-requires-clause-few
add-requires-clause-few c =
    let E = c.args.rolls.now in
    let n = c.loop-other.other in
    let roll = c.as_slice.ensures.all
    ∙ get_or_read E n c.index-rolls-other.result c.loop-other-test.true c.index-rolls-other.is [] in
    omega (
      arith,
      ap length roll,
      links_few E n c.loop-other.links.list.items c.requires.kept c.loop-other-test.true
          c.loop-other.invariant.pairs,
    )

pub loop-other-preserved : goal.loop-other-preserved
loop-other-preserved c =
    let E = c.args.rolls.now in
    let n = c.loop-other.other in
    let roll = c.as_slice.ensures.all
    ∙ get_or_read E n c.index-rolls-other.result c.loop-other-test.true c.index-rolls-other.is [] in
    let is : c.new-exam.result ≡ n = c.new-exam.ensures in
    let counted : AreShared E c.new-exam.result c.count_shared.new.counts =
    subst (λ k. AreShared E k c.count_shared.new.counts) (sym is) c.in-Some.ensures in
    record {
      found = c.in_ok-take_conflicts.ensures.found E counted
          ∙ ap₂ (λ a b. a ++ b) c.loop-other.invariant.found (ap (λ k. conflicts_with E k k) is)
          ∙ sym (ap (conflicts_below E) (add-one n));
      linked = c.in_ok-add.ensures.linked;
      zero = c.in_ok-take_conflicts.ensures.zero E counted;
      count = omega (
        arith,
        c.take_conflicts.auto.counts,
        c.count_shared.auto.counts,
        c.loop-other.invariant.count,
      );
      pairs = c.in_ok-add.ensures.pairs
          ∙ ap₂ (λ a b. a ++ b) c.loop-other.invariant.pairs (ap₂ pairs_at is roll)
          ∙ sym (pairs_more E n c.loop-other-test.true);
    }
