use Rattle.std.proofs.Common.{◌++◌, ap, codes, subst}
use Rattle.std.specs.List.{flat_map}
use Rattle.exam_reasons.specs.Reasons.{front_reasons, mixed_reasons, period_reasons, room_reasons}
use Rattle.office_check.specs.Why.{AddsFront, all_pairs_text, front_line, mixed_line, place_line}
use Rattle.exam_lists.proofs.Results.{OnErr_any}
use Rattle.office_check.proofs.WhyFacts.{adds_text, adds_then, front_longer, front_then}
use Rattle.office_check.proofs.explaining.add_all.Goals as goal

-- one part after another
pub returns-clause-ok : goal.returns-clause-ok
returns-clause-ok g c =
    adds_then _ _ _ _ _ _ _ _ (adds_then _ _ _ _ _ _ _ _ (adds_then _ _ _ _ _ _ _ _
    (adds_then _ _ _ _ _ _ _ _ c.in_ok-add_all_pairs.ensures.ok
    (adds_text _ _ _ _ _ _ (ap (flat_map mixed_line) c.requires.mixed) c.in_ok-add_mixed.ensures.ok))
    c.in_ok-add_front.ensures.ok) c.in_ok-add_periods.ensures.ok) c.in_ok-add_rooms.ensures.ok

-- a front of one part, after those before
pub returns-in_err-add_all_pairs-clause-err : goal.returns-in_err-add_all_pairs-clause-err
returns-in_err-add_all_pairs-clause-err g c =
    let I = c.args.subject.now.instance.now in
    let E = c.args.subject.now.enrolments.now in
    let T = c.args.subject.now.timetable.now in
    let pairs = all_pairs_text I E T in
    let mixed = flat_map mixed_line (mixed_reasons I T) in
    let front = flat_map front_line (front_reasons I E T) in
    let periods = flat_map (place_line (codes "period")) (period_reasons I T) in
    let rooms = flat_map (place_line (codes "room")) (room_reasons I T) in
    OnErr_any _ (front_longer _ _ _ (pairs ++ mixed ++ front ++ periods) rooms
    (front_longer _ _ _ (pairs ++ mixed ++ front) periods (front_longer _ _ _ (pairs ++ mixed) front
    (front_longer _ _ _ pairs mixed c.in_err-add_all_pairs.ensures.err))))

pub returns-in_err-add_mixed-clause-err : goal.returns-in_err-add_mixed-clause-err
returns-in_err-add_mixed-clause-err g c =
    let I = c.args.subject.now.instance.now in
    let E = c.args.subject.now.enrolments.now in
    let T = c.args.subject.now.timetable.now in
    let pairs = all_pairs_text I E T in
    let mixed = flat_map mixed_line (mixed_reasons I T) in
    let front = flat_map front_line (front_reasons I E T) in
    let periods = flat_map (place_line (codes "period")) (period_reasons I T) in
    let rooms = flat_map (place_line (codes "room")) (room_reasons I T) in
    OnErr_any _ (front_longer _ _ _ (pairs ++ mixed ++ front ++ periods) rooms
    (front_longer _ _ _ (pairs ++ mixed ++ front) periods (front_longer _ _ _ (pairs ++ mixed) front
    (front_then _ _ _ _ _ _ _ c.in_ok-add_all_pairs.ensures.ok
    (subst (AddsFront _ _ _) (ap (flat_map mixed_line) c.requires.mixed)
    c.in_err-add_mixed.ensures.err)))))

pub returns-in_err-add_front-clause-err : goal.returns-in_err-add_front-clause-err
returns-in_err-add_front-clause-err g c =
    let I = c.args.subject.now.instance.now in
    let E = c.args.subject.now.enrolments.now in
    let T = c.args.subject.now.timetable.now in
    let pairs = all_pairs_text I E T in
    let mixed = flat_map mixed_line (mixed_reasons I T) in
    let front = flat_map front_line (front_reasons I E T) in
    let periods = flat_map (place_line (codes "period")) (period_reasons I T) in
    let rooms = flat_map (place_line (codes "room")) (room_reasons I T) in
    OnErr_any _ (front_longer _ _ _ (pairs ++ mixed ++ front ++ periods) rooms
    (front_longer _ _ _ (pairs ++ mixed ++ front) periods (front_then _ _ _ _ _ _ _
    (adds_then _ _ _ _ _ _ _ _ c.in_ok-add_all_pairs.ensures.ok
    (adds_text _ _ _ _ _ _ (ap (flat_map mixed_line) c.requires.mixed) c.in_ok-add_mixed.ensures.ok))
    c.in_err-add_front.ensures.err)))

pub returns-in_err-add_periods-clause-err : goal.returns-in_err-add_periods-clause-err
returns-in_err-add_periods-clause-err g c =
    let I = c.args.subject.now.instance.now in
    let E = c.args.subject.now.enrolments.now in
    let T = c.args.subject.now.timetable.now in
    let pairs = all_pairs_text I E T in
    let mixed = flat_map mixed_line (mixed_reasons I T) in
    let front = flat_map front_line (front_reasons I E T) in
    let periods = flat_map (place_line (codes "period")) (period_reasons I T) in
    let rooms = flat_map (place_line (codes "room")) (room_reasons I T) in
    OnErr_any _ (front_longer _ _ _ (pairs ++ mixed ++ front ++ periods) rooms
    (front_then _ _ _ _ _ _ _ (adds_then _ _ _ _ _ _ _ _
    (adds_then _ _ _ _ _ _ _ _ c.in_ok-add_all_pairs.ensures.ok
    (adds_text _ _ _ _ _ _ (ap (flat_map mixed_line) c.requires.mixed) c.in_ok-add_mixed.ensures.ok))
    c.in_ok-add_front.ensures.ok) c.in_err-add_periods.ensures.err))

pub returns-in_err-add_rooms-clause-err : goal.returns-in_err-add_rooms-clause-err
returns-in_err-add_rooms-clause-err g c =
    OnErr_any _ (front_then _ _ _ _ _ _ _ (adds_then _ _ _ _ _ _ _ _ (adds_then _ _ _ _ _ _ _ _
    (adds_then _ _ _ _ _ _ _ _ c.in_ok-add_all_pairs.ensures.ok
    (adds_text _ _ _ _ _ _ (ap (flat_map mixed_line) c.requires.mixed) c.in_ok-add_mixed.ensures.ok))
    c.in_ok-add_front.ensures.ok) c.in_ok-add_periods.ensures.ok) c.in_err-add_rooms.ensures.err)
