use Rattle.std.proofs.Common.{arith}
use Rattle.exam_score.specs.Kinds.{in_table, over_night, cost_in, table_cost}
use Rattle.exam_score.proofs.ConflictCostLemmas.{conflicts_small, in_timetable, parts_by_conflicts}
use Rattle.exam_score.proofs.CostLemmas.{cost_in-small}
use Rattle.exam_score.proofs.pairs.parts_of_conflicts.Goals as goal

pub sums_of_conflicts-requires-clause-exist :
    goal.sums_of_conflicts-requires-clause-exist
sums_of_conflicts-requires-clause-exist c =
    rw c.requires.listed
    (in_timetable c.args.enrolments.now c.args.timetable.now c.requires.exams)

pub nights_of_conflicts-requires-clause-exist :
    goal.nights_of_conflicts-requires-clause-exist
nights_of_conflicts-requires-clause-exist c =
    rw c.requires.listed
    (in_timetable c.args.enrolments.now c.args.timetable.now c.requires.exams)

pub sums_of_conflicts-requires-clause-few : goal.sums_of_conflicts-requires-clause-few
sums_of_conflicts-requires-clause-few c = λ k.
    let I = c.args.instance.now in
    rw c.requires.listed
    (conflicts_small (table_cost I k) c.args.enrolments.now c.args.timetable.now
    c.lemma_order.ensures (cost_in-small I c.lemma_limits.ensures (in_table k)))

pub nights_of_conflicts-requires-clause-few :
    goal.nights_of_conflicts-requires-clause-few
nights_of_conflicts-requires-clause-few c =
    let I = c.args.instance.now in
    rw c.requires.listed
    (conflicts_small (cost_in I over_night) c.args.enrolments.now c.args.timetable.now
    c.lemma_order.ensures (cost_in-small I c.lemma_limits.ensures over_night))

pub of-requires : goal.of-requires
of-requires c =
    let parts = parts_by_conflicts c.args.instance.now c.args.enrolments.now c.args.timetable.now
    c.args.conflicts.now c.in_ok-sums.sums c.in_ok-night.night
    c.lemma_limits.ensures c.lemma_order.ensures c.requires.listed
    c.in_ok-sums.ensures c.in_ok-night.ensures in
    omega (arith, parts.few)

pub returns : goal.returns
returns c =
    rw c.of.ensures
    (parts_by_conflicts c.args.instance.now c.args.enrolments.now c.args.timetable.now
    c.args.conflicts.now c.in_ok-sums.sums c.in_ok-night.night
    c.lemma_limits.ensures c.lemma_order.ensures c.requires.listed
    c.in_ok-sums.ensures c.in_ok-night.ensures)
