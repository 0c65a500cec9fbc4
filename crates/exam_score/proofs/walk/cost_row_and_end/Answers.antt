use Rattle.std.proofs.Common.{◌≤◌, length, take, arith, sym}
use Rattle.exam_score.specs.Kinds.{table_cost}
use Rattle.exam_score.proofs.CostRowLemmas.{free_at, cost_row_found, table_beyond}
use Rattle.exam_score.proofs.WalkLemmas.{way_starts, beyond_tallies, own_from, own_none}
use Rattle.exam_score.proofs.walk.cost_row_and_end.Goals as goal

pub returns-in_default-clause-none : goal.returns-in_default-clause-none
returns-in_default-clause-none c I k table =
    let y = c.args.tally.now in
    let past : length I.periods ≤ y.period =
    omega (arith, c.in_default.ensures.lookup.3, c.get.ensures, table.count) in
    sym (beyond_tallies (table_cost I k) (take c.args.at c.args.tallies.now) y
    (λ q. table_beyond I k y.period q past))

pub latest_of_student-end-requires : goal.latest_of_student-end-requires
latest_of_student-end-requires c = record {
  way = way_starts c.requires.linked.buckets c.args.tallies.now c.args.tally.now c.args.at
      c.requires.linked.links c.requires.within c.requires.here;
}

pub returns-then-end-eq0-clause-none : goal.returns-then-end-eq0-clause-none
returns-then-end-eq0-clause-none c I k table =
    let y = c.args.tally.now in
    let cost_row = c.in-Some.cost_row.now in
    let found = c.in-Some.ensures.lookup in
    let first = table.first y.period cost_row
    (cost_row_found c.args.cost_rows.now _ y.period cost_row c.get.ensures found.3.0 found.1) in
    own_none (table_cost I k) c.args.tallies.now y c.args.at cost_row.first c.latest_of_student-end.result
    (own_from c.requires.linked.buckets c.args.tallies.now y c.args.at cost_row.first
    c.latest_of_student-end.result c.requires.linked.links c.requires.within c.requires.here
    c.latest_of_student-end.ensures)
    c.if-end-eq0.true (λ q lt. free_at I y.period q (first.free.each q lt) k)

-- the cost row of its period, as the table has it
pub returns-clause-cost_row : goal.returns-clause-cost_row
returns-clause-cost_row c I table =
    let found = c.in-Some.ensures.lookup in
    table.each c.args.tally.now.period c.in-Some.cost_row.now
    (cost_row_found c.args.cost_rows.now _ _ c.in-Some.cost_row.now c.get.ensures found.3.0 found.1)

pub returns-clause-first : goal.returns-clause-first
returns-clause-first c I table =
    let found = c.in-Some.ensures.lookup in
    table.first c.args.tally.now.period c.in-Some.cost_row.now
    (cost_row_found c.args.cost_rows.now _ _ c.in-Some.cost_row.now c.get.ensures found.3.0 found.1)

pub returns-clause-end : goal.returns-clause-end
returns-clause-end c =
    own_from c.requires.linked.buckets c.args.tallies.now c.args.tally.now c.args.at
    c.in-Some.cost_row.now.first c.latest_of_student-end.result c.requires.linked.links c.requires.within
    c.requires.here c.latest_of_student-end.ensures
