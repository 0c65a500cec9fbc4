use Rattle.std.proofs.Common.{refl, zero-add, ◌∙◌, arith}
use Rattle.exam_score.specs.Cost.{night_cost}
use Rattle.exam_score.specs.Kinds.{over_night}
use Rattle.exam_score.proofs.CostLemmas.{cost_in-small}
use Rattle.exam_score.proofs.NightLemmas.{night_apart}
use Rattle.exam_score.proofs.WalkLemmas.{way_starts, starts_alike, way_on, way_below, cost_on_way, walk_ends, beside_small}
use Rattle.exam_score.proofs.nights.nights_with_exam.Goals as goal

pub loop-other-init : goal.loop-other-init
loop-other-init c =
    let I = c.args.instance.now in
    let xs = c.args.tallies.now in
    let y = c.args.tally.now in
    record {
      way = way_starts c.requires.linked.buckets xs y c.args.at c.requires.linked.links
          c.requires.within c.requires.here;
      night = zero-add _
          ∙ starts_alike c.requires.linked.buckets (night_cost I.periods I.weights) xs y y c.args.at
          c.requires.linked.links c.requires.within c.requires.here refl;
    }

pub earlier_tally-requires : goal.earlier_tally-requires
earlier_tally-requires c = record { within = c.loop-other.invariant.way.within }

pub loop-other-smaller : goal.loop-other-smaller
loop-other-smaller c =
    let found = c.in-Some.ensures.some in
    way_below c.args.tallies.now c.in-Some.other c.loop-other.next c.args.tally.now.student
    c.loop-other.invariant.way found.some found.here

pub loop-other-preserved : goal.loop-other-preserved
loop-other-preserved c =
    let I = c.args.instance.now in
    let xs = c.args.tallies.now in
    let y = c.args.tally.now in
    let x = c.in-Some.other in
    let n = c.loop-other.next in
    let way = c.loop-other.invariant.way in
    let found = c.in-Some.ensures.some in
    record {
      way = way_on xs x n y.student way found.some found.here;
      night =
          let step = cost_on_way (night_cost I.periods I.weights) xs y x n y.student way
          found.some found.here refl in
          let was = c.loop-other.invariant.night in
          let more = c.night_between-more.ensures in
          omega arith;
    }

pub overflow_add-total : goal.overflow_add-total
overflow_add-total c =
    let I = c.args.instance.now in
    let xs = c.args.tallies.now in
    let y = c.args.tally.now in
    let found = c.in-Some.ensures.some in
    let step = cost_on_way (night_cost I.periods I.weights) xs y c.in-Some.other
    c.loop-other.next y.student c.loop-other.invariant.way found.some found.here refl in
    let was = c.loop-other.invariant.night in
    let more = c.night_between-more.ensures in
    let small = beside_small (night_cost I.periods I.weights) xs y c.args.at
    (cost_in-small I c.lemma_limits.ensures over_night) c.requires.few in
    omega arith

pub returns : goal.returns
returns c =
    let I = c.args.instance.now in
    let y = c.args.tally.now in
    let way = c.loop-other.invariant.way in
    let end = walk_ends way.buckets (night_cost I.periods I.weights) c.args.tallies.now y
    c.loop-other.next c.saturating_sub-first.result way.links way.within
    (λ q lt. night_apart I.periods I.weights y.period q
    (omega (arith, lt, c.get.ensures, c.saturating_sub-first.ensures)))
    c.in_default.ensures.none in
    let was = c.loop-other.invariant.night in
    omega arith
