use Rattle.std.proofs.Common.{◌+◌, ◌*◌, ◌^◌, ◌<◌, ◌≤◌, length, refl, arith}
use Rattle.exam_score.specs.Kinds.{TableKind, in_table, table_amount, table_cost}
use Rattle.exam_score.proofs.CostLemmas.{cost_in-small}
use Rattle.exam_score.proofs.KindLemmas.{each_in_table}
use Rattle.exam_score.proofs.CostRowLemmas.{cost_at, free_at}
use Rattle.exam_score.proofs.WalkLemmas.{own_tally, below_own, way_from, own_on, beside_small}
use Rattle.exam_score.proofs.walk.cost_with_earlier.Goals as goal

pub add-requires : goal.add-requires
add-requires c = each_in_table room
  where
    room : (k : TableKind) → table_amount c.loop-next.sums k
        + table_amount c.costs_in-costs.result k * c.index-tallies-next.result.exams < 2 ^ 64
    room k =
        let I = c.args.instance.now in
        let xs = c.args.tallies.now in
        let y = c.args.tally.now in
        let x = c.index-tallies-next.result in
        let n = c.loop-next.next in
        let some : 0 < n = omega (arith, c.loop-next-test.true) in
        let le : n ≤ length xs = omega (arith, c.loop-next.invariant.within, c.requires.within) in
        let at = own_tally c.requires.linked.buckets xs y x n c.requires.linked.links some le
        c.index-tallies-next.is c.loop-next.invariant.own in
        let step = own_on c.requires.linked.buckets (table_cost I k) xs y x n _ at
        (cost_at I y.period x.period _ c.costs_in-costs.ensures k) in
        let was = c.loop-next.invariant.sums k in
        let small = beside_small (table_cost I k) xs y c.args.end
        (cost_in-small I c.lemma_limits.ensures (in_table k)) c.requires.few in
        omega arith

pub latest_of_student-next-requires : goal.latest_of_student-next-requires
latest_of_student-next-requires c =
    let xs = c.args.tallies.now in
    let n = c.loop-next.next in
    let some : 0 < n = omega (arith, c.loop-next-test.true) in
    let le : n ≤ length xs = omega (arith, c.loop-next.invariant.within, c.requires.within) in
    record {
      way = way_from c.requires.linked.buckets xs c.args.tally.now c.index-tallies-next.result n
          (own_tally c.requires.linked.buckets xs _ _ n c.requires.linked.links some le
          c.index-tallies-next.is c.loop-next.invariant.own);
    }

pub loop-next-smaller : goal.loop-next-smaller
loop-next-smaller c =
    let xs = c.args.tallies.now in
    let n = c.loop-next.next in
    let some : 0 < n = omega (arith, c.loop-next-test.true) in
    let le : n ≤ length xs = omega (arith, c.loop-next.invariant.within, c.requires.within) in
    let below = below_own c.requires.linked.buckets xs c.args.tally.now c.index-tallies-next.result n
    (own_tally c.requires.linked.buckets xs _ _ n c.requires.linked.links some le
    c.index-tallies-next.is c.loop-next.invariant.own) in
    omega (arith, c.latest_of_student-next.ensures.within)

pub loop-next-preserved : goal.loop-next-preserved
loop-next-preserved c =
    let I = c.args.instance.now in
    let xs = c.args.tallies.now in
    let y = c.args.tally.now in
    let x = c.index-tallies-next.result in
    let n = c.loop-next.next in
    let some : 0 < n = omega (arith, c.loop-next-test.true) in
    let le : n ≤ length xs = omega (arith, c.loop-next.invariant.within, c.requires.within) in
    let at = own_tally c.requires.linked.buckets xs y x n c.requires.linked.links some le
    c.index-tallies-next.is c.loop-next.invariant.own in
    let below = below_own c.requires.linked.buckets xs y x n at in
    record {
      within = omega (arith, c.latest_of_student-next.ensures.within, c.loop-next.invariant.within);
      own = c.latest_of_student-next.ensures.own;
      sums = λ k.
          let step = own_on c.requires.linked.buckets (table_cost I k) xs y x n _ at
          (cost_at I y.period x.period _ c.costs_in-costs.ensures k) in
          let rest = c.latest_of_student-next.ensures.sums (table_cost I k) y refl
          (λ q lt. free_at I y.period q (c.requires.first.free.each q lt) k) in
          let was = c.loop-next.invariant.sums k in
          let more = c.add.ensures k in
          omega arith;
    }
