use Rattle.std.proofs.Common.{◌≡◌, arith}
use Rattle.exam_model.specs.Timetable.{place_of}
use Rattle.exam_score.specs.Touched.{sum_over_exams}
use Rattle.exam_score.specs.Track.{exam_period, exam_room}
use Rattle.exam_score.proofs.EditedSumLemmas.{periods_small, rooms_small, sum_done}
use Rattle.exam_score.proofs.edited_exams.edited_places.Goals as goal

pub overflow_add-sums : goal.overflow_add-sums
overflow_add-sums c =
    let all = periods_small c.args.instance.now c.args.timetable.now c.args.edited.now
    c.lemma_limits.ensures in
    omega (arith, all, c.loop-exam.invariant.periods, c.cost_of_period.ensures.small)

pub overflow_add-sums-then-is_further : goal.overflow_add-sums-then-is_further
overflow_add-sums-then-is_further c =
    let all = rooms_small c.args.instance.now c.args.timetable.now c.args.edited.now
    c.lemma_limits.ensures in
    omega (arith, all, c.loop-exam.invariant.rooms, c.cost_of_room.ensures.small)

periods : (c : goal.In_default) → c.loop-exam.sums.periods
    ≡ sum_over_exams c.args.instance.now c.args.edited.now
    (λ e. exam_period c.args.instance.now (place_of c.args.timetable.now e))
periods c =
    sum_done c.args.instance.now _ _ c.loop-exam.left.now _ c.in_default.ensures.cases
    c.loop-exam.invariant.periods

rooms : (c : goal.In_default) → c.loop-exam.sums.rooms
    ≡ sum_over_exams c.args.instance.now c.args.edited.now
    (λ e. exam_room c.args.instance.now (place_of c.args.timetable.now e))
rooms c =
    sum_done c.args.instance.now _ _ c.loop-exam.left.now _ c.in_default.ensures.cases
    c.loop-exam.invariant.rooms

pub returns-clause-periods : goal.returns-clause-periods
returns-clause-periods c = periods c

pub returns-clause-rooms : goal.returns-clause-rooms
returns-clause-rooms c = rooms c

pub returns-clause-small_periods : goal.returns-clause-small_periods
returns-clause-small_periods c =
    let all = periods_small c.args.instance.now c.args.timetable.now c.args.edited.now
    c.lemma_limits.ensures in
    omega (arith, all, periods c)

pub returns-clause-small_rooms : goal.returns-clause-small_rooms
returns-clause-small_rooms c =
    let all = rooms_small c.args.instance.now c.args.timetable.now c.args.edited.now
    c.lemma_limits.ensures in
    omega (arith, all, rooms c)
