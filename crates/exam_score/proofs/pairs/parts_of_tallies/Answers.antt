use Rattle.std.proofs.Common.{arith, ◌∙◌, ap, subst}
use Rattle.exam_score.specs.Kinds.{over_night, cost_in, table_cost}
use Rattle.exam_score.specs.Tallies.{tally_cost, AreCounted}
use Rattle.exam_score.proofs.PairsLemmas.{pair_parts_tallied, tallied_rows, few_seats, few_tallied}
use Rattle.exam_score.proofs.pairs.parts_of_tallies.Goals as goal

pub tallies_of-requires : goal.tallies_of-requires
tallies_of-requires c =
    let E = c.args.enrolments.now in
    let T = c.args.timetable.now in
    let all = c.in_ok-sittings.ensures.all in
    let few = few_seats E T c.in_ok-sittings.sittings.items c.lemma_order.ensures
    c.requires.exams all in
    let same = c.deref.ensures.value in
    record {
      exist = rw same
          (λ k d lt. omega (arith, c.in_ok-sittings.ensures.exist k d lt, c.requires.exams));
      few = rw same few;
      ascending = rw same c.in_ok-sittings.ensures.ascending;
    }

pub sums_of_pairs-sums-requires : goal.sums_of_pairs-sums-requires
sums_of_pairs-sums-requires c =
    let E = c.args.enrolments.now in
    let T = c.args.timetable.now in
    let tallies = c.in_ok-tallies.tallies.items in
    let counted : AreCounted E c.in_ok-sittings.sittings.items tallies =
    subst (λ xs. AreCounted E xs tallies) c.deref.ensures.value
    c.in_ok-tallies.ensures.counted in
    let rows = tallied_rows E T c.in_ok-sittings.sittings.items tallies c.requires.exams
    c.in_ok-sittings.ensures.all counted in
    record {
      table = rw c.deref-2.ensures.value c.in_ok-cost_rows.ensures;
      linked = rw c.deref-3.ensures.value c.in_ok-tallies.ensures.linked;
      few = rw c.deref-3.ensures.value (few_tallied E T tallies c.lemma_order.ensures rows);
    }

pub nights_of_pairs-night-requires : goal.nights_of_pairs-night-requires
nights_of_pairs-night-requires c =
    let E = c.args.enrolments.now in
    let T = c.args.timetable.now in
    let tallies = c.in_ok-tallies.tallies.items in
    let counted : AreCounted E c.in_ok-sittings.sittings.items tallies =
    subst (λ xs. AreCounted E xs tallies) c.deref.ensures.value
    c.in_ok-tallies.ensures.counted in
    let rows = tallied_rows E T c.in_ok-sittings.sittings.items tallies c.requires.exams
    c.in_ok-sittings.ensures.all counted in
    record {
      linked = rw c.deref-4.ensures.value c.in_ok-tallies.ensures.linked;
      few = rw c.deref-4.ensures.value (few_tallied E T tallies c.lemma_order.ensures rows);
    }

pub of-requires : goal.of-requires
of-requires c =
    let I = c.args.instance.now in
    let E = c.args.enrolments.now in
    let parts = pair_parts_tallied I E c.args.timetable.now c.in_ok-sittings.sittings.items
    c.in_ok-tallies.tallies.items c.sums_of_pairs-sums.result c.nights_of_pairs-night.result
    c.lemma_limits.ensures c.lemma_order.ensures c.requires.exams
    c.in_ok-sittings.ensures.all
    (subst (λ xs. AreCounted E xs c.in_ok-tallies.tallies.items) c.deref.ensures.value
    c.in_ok-tallies.ensures.counted)
    (λ k. c.sums_of_pairs-sums.ensures k
    ∙ ap (tally_cost (table_cost I k)) c.deref-3.ensures.value)
    (c.nights_of_pairs-night.ensures
    ∙ ap (tally_cost (cost_in I over_night)) c.deref-4.ensures.value) in
    omega (arith, parts.few)

pub returns : goal.returns
returns c =
    let I = c.args.instance.now in
    let E = c.args.enrolments.now in
    rw c.of.ensures
    (pair_parts_tallied I E c.args.timetable.now c.in_ok-sittings.sittings.items
    c.in_ok-tallies.tallies.items c.sums_of_pairs-sums.result c.nights_of_pairs-night.result
    c.lemma_limits.ensures c.lemma_order.ensures c.requires.exams
    c.in_ok-sittings.ensures.all
    (subst (λ xs. AreCounted E xs c.in_ok-tallies.tallies.items) c.deref.ensures.value
    c.in_ok-tallies.ensures.counted)
    (λ k. c.sums_of_pairs-sums.ensures k
    ∙ ap (tally_cost (table_cost I k)) c.deref-3.ensures.value)
    (c.nights_of_pairs-night.ensures
    ∙ ap (tally_cost (cost_in I over_night)) c.deref-4.ensures.value))
