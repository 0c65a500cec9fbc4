use Rattle.std.proofs.Common.{◌∙◌, ap, map, sym, true≢false}
use Rattle.office_store.specs.Viewing.{candidate_enrol_row}
use Rattle.office_store.proofs.FoldingLemmas.{candidate_are_of, candidate_back, up_of}
use Rattle.office_store.proofs.folding.exams_in_order.Goals as goal

pub returns-then-not-are_of_candidate-clause-fault
    : goal.returns-then-not-are_of_candidate-clause-fault
returns-then-not-are_of_candidate-clause-fault c exams is up =
    absurd (true≢false (sym (c.if-not-are_of_candidate.ensures.1
    (candidate_are_of c.args.student c.args.rows.now exams is))))

pub returns-then-not-are_in_order-clause-fault : goal.returns-then-not-are_in_order-clause-fault
returns-then-not-are_in_order-clause-fault c exams is up =
    absurd (true≢false (sym (c.if-not-are_in_order.ensures.1
    (up_of c.args.student c.args.rows.now exams is up))))

pub returns-clause-are : goal.returns-clause-are
returns-clause-are c =
    candidate_back c.args.student c.args.rows.now
    (c.are_of_candidate.ensures.0 c.if-not-are_of_candidate.false)
    ∙ ap (map (candidate_enrol_row c.args.student)) (sym c.in_ok-exams.ensures)
