use Rattle.std.proofs.Common.{◌∙◌, ℕ, ◌*◌, ◌≤◌, List, length, ap, subst, sym, arith}
use Rattle.exam_model.specs.Sums.{sum_below}
use Rattle.exam_rules.proofs.PlaceLemmas.{its_place_exists}
use Rattle.exam_places.specs.PeriodTable.{shared_in}
use Rattle.exam_places.specs.declared.period_table.PeriodEntry.{PeriodEntry}
use Rattle.exam_places.proofs.PeriodSums.{beside_by_table, table_small}
use Rattle.exam_places.proofs.shares.cost_beside.Goals as goal

pub sum_by_period-requires-clause-few : goal.sum_by_period-requires-clause-few
sum_by_period-requires-clause-few g c =
    let same = ap length c.deref.ensures.value in
    omega (arith, same, c.requires.tables.periods.count, c.lemma_limits.ensures.limits.counts.1.1)

pub sum_by_period-requires-clause-small : goal.sum_by_period-requires-clause-small
sum_by_period-requires-clause-small g c =
    let u = c.args.unplaced.now in
    subst (λ (xs : List PeriodEntry). (q : ℕ) → shared_in xs q ≤ 400000000)
    (sym c.deref.ensures.value)
    (table_small u (length u.instance.now.exams) c.args.tables.now.periods.items
    c.requires.tables.periods c.lemma_order.ensures (sym c.requires.unplaced.fits.enrolments)
    (omega (arith, c.requires.unplaced.exists, c.requires.unplaced.fits.enrolments)))

pub returns-clause-sum : goal.returns-clause-sum
returns-clause-sum g c =
    let u = c.args.unplaced.now in
    let cost = g.C.PairCost.cost_of c.args.cost.now in
    c.sum_by_period.ensures.sum
    ∙ ap (λ (xs : List PeriodEntry). sum_below (length xs)
    (λ q. shared_in xs q * cost c.args.period q)) c.deref.ensures.value
    ∙ beside_by_table cost u c.args.period (length u.instance.now.exams)
    c.args.tables.now.periods.items c.requires.tables.periods
    (sym c.requires.unplaced.fits.enrolments)
    (λ f q there. (its_place_exists u.instance.now u.timetable.now f q
    c.requires.unplaced.fits.places there).0)
