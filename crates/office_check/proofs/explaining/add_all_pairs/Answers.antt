use Rattle.std.proofs.Common.{◌++◌}
use Rattle.exam_reasons.specs.declared.reasons.PairKind.TheVariants.{Day, Night, Row, Spread}
use Rattle.office_check.specs.Why.{pairs_text}
use Rattle.exam_lists.proofs.Results.{OnErr_any}
use Rattle.office_check.proofs.WhyFacts.{adds_then, front_longer, front_then}
use Rattle.office_check.proofs.explaining.add_all_pairs.Goals as goal

-- one kind after another
pub returns-clause-ok : goal.returns-clause-ok
returns-clause-ok g c =
    adds_then _ _ _ _ _ _ _ _ (adds_then _ _ _ _ _ _ _ _
    (adds_then _ _ _ _ _ _ _ _ c.in_ok-add_pairs.ensures.ok c.in_ok-add_pairs-2.ensures.ok)
    c.in_ok-add_pairs-3.ensures.ok) c.in_ok-add_pairs-4.ensures.ok

-- a front of the lines of one kind, after those of the kinds before
pub returns-in_err-add_pairs-clause-err : goal.returns-in_err-add_pairs-clause-err
returns-in_err-add_pairs-clause-err g c =
    let text = pairs_text c.args.subject.now.instance.now c.args.subject.now.enrolments.now
    c.args.subject.now.timetable.now in
    OnErr_any _ (front_longer _ _ _ (text Row ++ text Day ++ text Spread) (text Night)
    (front_longer _ _ _ (text Row ++ text Day) (text Spread)
    (front_longer _ _ _ (text Row) (text Day) c.in_err-add_pairs.ensures.err)))

pub returns-in_err-add_pairs-2-clause-err : goal.returns-in_err-add_pairs-2-clause-err
returns-in_err-add_pairs-2-clause-err g c =
    let text = pairs_text c.args.subject.now.instance.now c.args.subject.now.enrolments.now
    c.args.subject.now.timetable.now in
    OnErr_any _ (front_longer _ _ _ (text Row ++ text Day ++ text Spread) (text Night)
    (front_longer _ _ _ (text Row ++ text Day) (text Spread)
    (front_then _ _ _ _ _ _ _ c.in_ok-add_pairs.ensures.ok c.in_err-add_pairs-2.ensures.err)))

pub returns-in_err-add_pairs-3-clause-err : goal.returns-in_err-add_pairs-3-clause-err
returns-in_err-add_pairs-3-clause-err g c =
    let text = pairs_text c.args.subject.now.instance.now c.args.subject.now.enrolments.now
    c.args.subject.now.timetable.now in
    OnErr_any _ (front_longer _ _ _ (text Row ++ text Day ++ text Spread) (text Night)
    (front_then _ _ _ _ _ _ _
    (adds_then _ _ _ _ _ _ _ _ c.in_ok-add_pairs.ensures.ok c.in_ok-add_pairs-2.ensures.ok)
    c.in_err-add_pairs-3.ensures.err))

pub returns-in_err-add_pairs-4-clause-err : goal.returns-in_err-add_pairs-4-clause-err
returns-in_err-add_pairs-4-clause-err g c =
    OnErr_any _ (front_then _ _ _ _ _ _ _ (adds_then _ _ _ _ _ _ _ _
    (adds_then _ _ _ _ _ _ _ _ c.in_ok-add_pairs.ensures.ok c.in_ok-add_pairs-2.ensures.ok)
    c.in_ok-add_pairs-3.ensures.ok) c.in_err-add_pairs-4.ensures.err)
