use Rattle.std.proofs.Common.{◌≡◌, length, take, drop, arith, subst, sym, ◌∙◌, ap₂}
use Rattle.exam_publish.specs.Shares.{shares_of, student_shares}
use Rattle.office_records.specs.PartShares.{HasShareOfEach}
use Rattle.office_records.proofs.PublicationLemmas.{has_places_and_seats}
use Rattle.office_records.proofs.ResultLemmas.{passed_on}
use Rattle.office_records.proofs.SharesLemmas.{are_personal, each_has, one_read, own_read}
use Rattle.office_records.proofs.shares.shares_of.Goals as goal

pub returns-then-len-exams-clause-none : goal.returns-then-len-exams-clause-none
returns-then-len-exams-clause-none c _ p is shared =
    let own = own_read c.in_ok-students.ensures.only c.in_ok-parts.ensures.only shared in
    absurd (omega (
      arith,
      own.count,
      c.exams-exams.ensures.count,
      c.periods-periods.ensures.count,
      c.rooms-rooms.ensures.count,
      c.len.ensures,
    ))

pub returns-in_err-personal-clause-none : goal.returns-in_err-personal-clause-none
returns-in_err-personal-clause-none c =
    let I = c.args.instance.now in
    passed_on c.from_residual-in_err-personal.result c.in_err-personal.field-0.0 _
    c.from_residual-in_err-personal.ensures.1
    (λ bad p is shared.
    let own = own_read c.in_ok-students.ensures.only c.in_ok-parts.ensures.only shared in
    c.in_err-personal.ensures.none bad (student_shares I p.rows)
    (are_personal I p c.exams-exams.ensures.kept (has_places_and_seats I p is))
    (own.personal ∙ sym c.deref.ensures.value))

pub returns-in_err-exam_shares-clause-none : goal.returns-in_err-exam_shares-clause-none
returns-in_err-exam_shares-clause-none c =
    passed_on c.from_residual-in_err-exam_shares.result c.in_err-exam_shares.field-0.0 _
    c.from_residual-in_err-exam_shares.ensures.1
    (λ bad p is shared.
    let own = own_read c.in_ok-students.ensures.only c.in_ok-parts.ensures.only shared in
    c.in_err-exam_shares.ensures.none bad
    (shares_of c.args.instance.now p.rows p.timetable).exams (let are = own.of_exams in cc))

pub returns-in_err-period_shares-clause-none : goal.returns-in_err-period_shares-clause-none
returns-in_err-period_shares-clause-none c =
    passed_on c.from_residual-in_err-period_shares.result c.in_err-period_shares.field-0.0 _
    c.from_residual-in_err-period_shares.ensures.1
    (λ bad p is shared.
    let own = own_read c.in_ok-students.ensures.only c.in_ok-parts.ensures.only shared in
    c.in_err-period_shares.ensures.none bad
    (shares_of c.args.instance.now p.rows p.timetable).periods (let are = own.of_periods in cc))

pub returns-in_err-room_shares-clause-none : goal.returns-in_err-room_shares-clause-none
returns-in_err-room_shares-clause-none c =
    passed_on c.from_residual-in_err-room_shares.result c.in_err-room_shares.field-0.0 _
    c.from_residual-in_err-room_shares.ensures.1
    (λ bad p is shared.
    let own = own_read c.in_ok-students.ensures.only c.in_ok-parts.ensures.only shared in
    c.in_err-room_shares.ensures.none bad
    (shares_of c.args.instance.now p.rows p.timetable).rooms (let are = own.of_rooms in cc))

pub returns-clause-only : goal.returns-clause-only
returns-clause-only c p shared =
    let I = c.args.instance.now in
    let rows = c.in_ok-parts.parts.items in
    let exams : c.split_at.result.0.now ≡ take (length I.exams) rows
    = c.split_at.ensures.front ∙ ap₂ take c.exams-exams.ensures.count c.deref-2.ensures.value in
    let others : c.split_at.result.1.now ≡ drop (length I.exams) rows
    = c.split_at.ensures.back ∙ ap₂ drop c.exams-exams.ensures.count c.deref-2.ensures.value in
    let periods : c.split_at-2.result.0.now ≡ take (length I.periods) (drop (length I.exams) rows)
    = c.split_at-2.ensures.front ∙ ap₂ take c.periods-periods.ensures.count others in
    let rooms : c.split_at-2.result.1.now ≡ drop (length I.periods) (drop (length I.exams) rows)
    = c.split_at-2.ensures.back ∙ ap₂ drop c.periods-periods.ensures.count others in
    c.of.ensures
    ∙ one_read (record {
      count = omega (
        arith,
        c.len.ensures,
        c.exams-exams.ensures.count,
        c.periods-periods.ensures.count,
        c.rooms-rooms.ensures.count,
        c.if-len-exams.false,
      );
      personal = c.in_ok-personal.ensures.are ∙ c.deref.ensures.value;
      of_exams = c.in_ok-exam_shares.ensures.are ∙ exams;
      of_periods = c.in_ok-period_shares.ensures.are ∙ periods;
      of_rooms = c.in_ok-room_shares.ensures.are ∙ rooms;
    })
    (own_read c.in_ok-students.ensures.only c.in_ok-parts.ensures.only shared)

pub returns-clause-fits : goal.returns-clause-fits
returns-clause-fits c =
    let I = c.args.instance.now in
    let rows = c.in_ok-parts.parts.items in
    let exams : c.split_at.result.0.now ≡ take (length I.exams) rows
    = c.split_at.ensures.front ∙ ap₂ take c.exams-exams.ensures.count c.deref-2.ensures.value in
    let others : c.split_at.result.1.now ≡ drop (length I.exams) rows
    = c.split_at.ensures.back ∙ ap₂ drop c.exams-exams.ensures.count c.deref-2.ensures.value in
    let periods : c.split_at-2.result.0.now ≡ take (length I.periods) (drop (length I.exams) rows)
    = c.split_at-2.ensures.front ∙ ap₂ take c.periods-periods.ensures.count others in
    let rooms : c.split_at-2.result.1.now ≡ drop (length I.periods) (drop (length I.exams) rows)
    = c.split_at-2.ensures.back ∙ ap₂ drop c.periods-periods.ensures.count others in
    subst (HasShareOfEach I) (sym c.of.ensures)
    (each_has I c.in_ok-students.students.items rows _
    (record {
      count = omega (
        arith,
        c.len.ensures,
        c.exams-exams.ensures.count,
        c.periods-periods.ensures.count,
        c.rooms-rooms.ensures.count,
        c.if-len-exams.false,
      );
      personal = c.in_ok-personal.ensures.are ∙ c.deref.ensures.value;
      of_exams = c.in_ok-exam_shares.ensures.are ∙ exams;
      of_periods = c.in_ok-period_shares.ensures.are ∙ periods;
      of_rooms = c.in_ok-room_shares.ensures.are ∙ rooms;
    }))
