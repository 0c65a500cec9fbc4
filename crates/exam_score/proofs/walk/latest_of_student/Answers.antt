use Rattle.std.proofs.Common.{◌≡◌, ◌≢◌, refl, sym, ◌∙◌, ap, arith}
use Rattle.std.proofs.lemmas.Bool.{eqb-true, eqb-false}
use Rattle.exam_score.proofs.WalkLemmas.{passed, walk_ends, way_below, way_on}
use Rattle.exam_score.proofs.walk.latest_of_student.Goals as goal

pub loop-other-init : goal.loop-other-init
loop-other-init c = record {
  within = omega arith;
  way = c.requires.way;
  sums = λ cost y own. refl;
}

pub earlier_tally-requires : goal.earlier_tally-requires
earlier_tally-requires c = record { within = c.loop-other.invariant.way.within }

pub returns-then-eq : goal.returns-then-eq
returns-then-eq c =
    let found = c.in-Some.ensures.some in
    let same : c.in-Some.other.student ≡ c.args.student =
    eqb-true c.in-Some.other.student c.args.student (sym c.eq.ensures ∙ c.if-eq.true) in
    record {
      within = c.loop-other.invariant.within;
      own = λ d some. ap (λ z. z.student) (found.here d) ∙ same;
      sums = λ cost y own free. c.loop-other.invariant.sums cost y own;
    }

pub loop-other-smaller : goal.loop-other-smaller
loop-other-smaller c =
    let found = c.in-Some.ensures.some in
    way_below c.args.tallies.now c.in-Some.other c.loop-other.next c.args.student
    c.loop-other.invariant.way found.some found.here

pub loop-other-preserved : goal.loop-other-preserved
loop-other-preserved c =
    let xs = c.args.tallies.now in
    let x = c.in-Some.other in
    let n = c.loop-other.next in
    let way = c.loop-other.invariant.way in
    let found = c.in-Some.ensures.some in
    let other : x.student ≢ c.args.student =
    eqb-false x.student c.args.student (sym c.eq.ensures ∙ c.if-eq.false) in
    record {
      within = omega
          (arith, way_below xs x n c.args.student way found.some found.here, c.loop-other.invariant.within);
      way = way_on xs x n c.args.student way found.some found.here;
      sums = λ cost y own. c.loop-other.invariant.sums cost y own
          ∙ passed cost xs y x n c.args.student way found.some found.here other own;
    }

pub returns : goal.returns
returns c =
    let way = c.loop-other.invariant.way in
    record {
      within = omega arith;
      own = λ d some. absurd (omega arith);
      sums = λ cost y own free. c.loop-other.invariant.sums cost y own
          ∙ walk_ends way.buckets cost c.args.tallies.now y c.loop-other.next c.args.first way.links
          way.within free c.in_default.ensures.none;
    }
