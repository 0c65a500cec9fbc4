use Rattle.std.proofs.Common.{◌∙◌, ap, subst, sym}
use Rattle.std.proofs.lemmas.List.{take_all}
use Rattle.std.proofs.lemmas.List.Elements.{All-get_or}
use Rattle.std.specs.List.{flat_map}
use Rattle.exam_model.specs.declared.conflicts.Conflict.{Conflict}
use Rattle.exam_reasons.specs.Lists.{listed}
use Rattle.exam_reasons.specs.Pairs.{IsCounted}
use Rattle.exam_reasons.specs.Reasons.{pair_reason}
use Rattle.office_check.specs.Why.{AddsFront, pair_line}
use Rattle.exam_lists.proofs.Results.{OnErr_any}
use Rattle.office_check.proofs.WhyFacts.{adds_next, adds_text, front_among, lines_of_pairs}
use Rattle.office_check.proofs.explaining.add_pairs.Goals as goal

-- the students of each pair are counted
pub add_pair-requires-clause-counted : goal.add_pair-requires-clause-counted
add_pair-requires-clause-counted g c =
    let E = c.args.subject.now.enrolments.now in
    subst (IsCounted E) (sym c.pair-item.is)
    (All-get_or (IsCounted E) c.args.subject.now.pairs.now c.loop-pair.pair-index
    c.pair-item.result c.loop-pair-test.true c.requires.pairs.counted)

-- one more pair
pub loop-pair-preserved : goal.loop-pair-preserved
loop-pair-preserved g c =
    adds_next
    (λ x. flat_map (pair_line c.args.kind) (listed (pair_reason c.args.subject.now.instance.now
    c.args.subject.now.enrolments.now c.args.subject.now.timetable.now c.args.kind x.exam x.other)))
    c.args.subject.now.pairs.now c.loop-pair.pair-index c.pair-item.result _ _ _ _ _ _
    c.loop-pair-test.true c.pair-item.is c.loop-pair.invariant c.in_ok-add_pair.ensures.ok

-- all pairs
pub returns-clause-ok : goal.returns-clause-ok
returns-clause-ok g c =
    let kind = c.args.kind in
    let pairs = c.args.subject.now.pairs.now in
    let reasons = λ (x : Conflict). listed (pair_reason c.args.subject.now.instance.now
    c.args.subject.now.enrolments.now c.args.subject.now.timetable.now kind x.exam x.other) in
    adds_text _ _ _ _ _ _
    (ap (flat_map (λ x. flat_map (pair_line kind) (reasons x)))
    (take_all c.loop-pair.pair-index pairs c.loop-pair-test.false)
    ∙ lines_of_pairs kind reasons pairs
    ∙ ap (flat_map (pair_line kind)) (c.requires.pairs.reasons kind)) c.loop-pair.invariant

-- a front of the lines of all pairs
pub returns-in_err-add_pair-clause-err : goal.returns-in_err-add_pair-clause-err
returns-in_err-add_pair-clause-err g c =
    let kind = c.args.kind in
    let pairs = c.args.subject.now.pairs.now in
    let reasons = λ (x : Conflict). listed (pair_reason c.args.subject.now.instance.now
    c.args.subject.now.enrolments.now c.args.subject.now.timetable.now kind x.exam x.other) in
    OnErr_any _ (subst (AddsFront _ _ _)
    (lines_of_pairs kind reasons pairs
    ∙ ap (flat_map (pair_line kind)) (c.requires.pairs.reasons kind))
    (front_among (λ x. flat_map (pair_line kind) (reasons x)) pairs c.loop-pair.pair-index
    c.pair-item.result _ _ _ _ _ c.loop-pair-test.true c.pair-item.is c.loop-pair.invariant
    c.in_err-add_pair.ensures.err))
