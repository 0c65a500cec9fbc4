use Rattle.std.proofs.Common.{◌≡◌, ◌+◌, ◌*◌, ◌^◌, ◌<◌, get_or, refl, sym, ◌∙◌, subst, arith}
use Rattle.std.proofs.lemmas.List.{get_or_default}
use Rattle.exam_score.specs.Kinds.{TableKind, in_table, table_amount, table_cost}
use Rattle.exam_score.specs.declared.tallies.Tally.{Tally}
use Rattle.exam_score.proofs.CostLemmas.{cost_in-small}
use Rattle.exam_score.proofs.KindLemmas.{each_in_table}
use Rattle.exam_score.proofs.CostRowLemmas.{free_at}
use Rattle.exam_score.proofs.WalkLemmas.{IsCostTo, not_later, cost_to_more, cost_to_same, cost_to-small}
use Rattle.exam_score.proofs.walk.sums_of_pairs.Goals as goal

pub cost_with_earlier-more-requires : goal.cost_with_earlier-more-requires
cost_with_earlier-more-requires c =
    let xs = c.args.tallies.now in
    let y = c.index-tallies-at.result in
    let at = c.loop-at.at in
    let found = c.in-Some.ensures.end in
    let here : (d : Tally) → get_or xs at d ≡ y =
    λ d. get_or_default xs at d y c.loop-at-test.true ∙ sym c.index-tallies-at.is in
    record {
      within = omega (arith, found.within, c.loop-at-test.true);
      own = found.own;
      not_later = λ k d lt. not_later c.requires.linked.buckets xs y k at c.requires.linked.links
          (omega (arith, found.within)) c.loop-at-test.true here d;
      cost_row = c.in-Some.ensures.cost_row c.args.instance.now c.requires.table;
      first = c.in-Some.ensures.first c.args.instance.now c.requires.table;
      linked = c.requires.linked;
      few = c.requires.few;
    }

-- nothing earlier costs anything with it
pub loop-at-preserved-in_default : goal.loop-at-preserved-in_default
loop-at-preserved-in_default c = λ k.
    let I = c.args.instance.now in
    cost_to_same (table_cost I k) c.args.tallies.now c.loop-at.at _ c.index-tallies-at.result
    c.loop-at-test.true c.index-tallies-at.is
    (cost_in-small I c.lemma_limits.ensures (in_table k)) c.requires.few
    (c.loop-at.invariant k) (c.in_default.ensures.none I k c.requires.table)

pub add-requires : goal.add-requires
add-requires c = each_in_table room
  where
    room : (k : TableKind) → table_amount c.loop-at.sums k
        + table_amount c.cost_with_earlier-more.result k * c.index-tallies-at.result.exams < 2 ^ 64
    room k =
        let I = c.args.instance.now in
        let y = c.index-tallies-at.result in
        let first = c.in-Some.ensures.first I c.requires.table in
        let small = cost_to-small (table_cost I k) c.args.tallies.now _ _ c.requires.few
        (cost_to_more (table_cost I k) c.args.tallies.now c.loop-at.at _ _ y c.loop-at-test.true
        c.index-tallies-at.is (cost_in-small I c.lemma_limits.ensures (in_table k))
        c.requires.few (c.loop-at.invariant k)
        (c.cost_with_earlier-more.ensures k
        ∙ sym (c.in-Some.ensures.end.sums (table_cost I k) y refl
        (λ q lt. free_at I y.period q (first.free.each q lt) k)))) in
        omega arith

pub loop-at-preserved : goal.loop-at-preserved
loop-at-preserved c = λ k.
    let I = c.args.instance.now in
    let y = c.index-tallies-at.result in
    let first = c.in-Some.ensures.first I c.requires.table in
    subst (IsCostTo (table_cost I k) c.args.tallies.now (c.loop-at.at + 1)) (sym (c.add.ensures k))
    (cost_to_more (table_cost I k) c.args.tallies.now c.loop-at.at _ _ y c.loop-at-test.true
    c.index-tallies-at.is (cost_in-small I c.lemma_limits.ensures (in_table k))
    c.requires.few (c.loop-at.invariant k)
    (c.cost_with_earlier-more.ensures k
    ∙ sym (c.in-Some.ensures.end.sums (table_cost I k) y refl
    (λ q lt. free_at I y.period q (first.free.each q lt) k))))
