use Rattle.std.proofs.Common.{◌≡◌, ℕ, ◌∙◌, List, ap, arith, subst, sym}
use Rattle.std.specs.Prelude.{min}
use Rattle.exam_model.specs.Fits.{period_of}
use Rattle.exam_score.specs.Kinds.{in_row, in_day, Kind, in_table, over_night, cost_in}
use Rattle.exam_score.proofs.CostLemmas.{uncapped, cost_in-small}
use Rattle.exam_score.specs.Front.{AreSizes}
use Rattle.exam_places.specs.Answers.{place}
use Rattle.exam_places.specs.Shares.{cost_beside}
use Rattle.exam_places.proofs.ShareLemmas.{front_of_sizes}
use Rattle.exam_places.proofs.shares.period_share.Goals as goal

pub returns-clause-share : goal.returns-clause-share
returns-clause-share c =
    let u = c.args.unplaced.now in
    let I = u.instance.now in
    let E = u.enrolments.now in
    let T = u.timetable.now in
    let e = u.exam in
    let p = c.args.period in
    let are_sizes : AreSizes E c.as_slice-sizes.result.now =
    subst (λ (xs : List ℕ). AreSizes E xs) (sym c.as_slice-sizes.ensures.value)
    c.requires.tables.sizes in
    let whole : (k : Kind) → cost_beside (λ p q. min (cost_in I k p q) 100000) E (period_of T) e p
    ≡ cost_beside (cost_in I k) E (period_of T) e p
    = λ k. ap (λ (cost : ℕ → ℕ → ℕ). cost_beside cost E (period_of T) e p)
    (uncapped (cost_in I k) (cost_in-small I c.lemma_limits.ensures k)) in
    let row = c.cost_beside-in_row.ensures.sum ∙ whole (in_table in_row) in
    let day = c.cost_beside-in_day.ensures.sum ∙ whole (in_table in_day) in
    let spread = c.cost_beside-in_spread.ensures.sum in
    let night = c.cost_beside-over_night.ensures.sum ∙ whole over_night in
    let fits = c.requires.unplaced.fits in
    let front = c.front_share-front.ensures.share
    ∙ front_of_sizes I E T e (place p c.new-room.result) c.as_slice-sizes.result.now are_sizes
    fits.enrolments fits.timetable c.requires.unplaced.exists in
    omega (arith, row, day, spread, night, front, c.penalty_of_period-penalty.ensures.penalty)
