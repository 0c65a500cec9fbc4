use Rattle.std.proofs.Common.{sym, ◌∙◌}
use Rattle.std.proofs.lemmas.Result.{err_from_is_err_and}
use Rattle.office_files.proofs.LaterLemmas.{faulty_room_rules, faulty_weightings, faulty_end, all_sections}
use Rattle.office_files.proofs.instance_reader.later_sections.Goals as goal

pub returns-in_err-room_rules-clause-fault : goal.returns-in_err-room_rules-clause-fault
returns-in_err-room_rules-clause-fault c exam_lines same =
    let s1 = c.in_ok-periods.ensures.same in
    let s2 = c.in_ok-rooms.ensures.same ∙ s1 in
    let s3 = c.in_ok-period_rules.ensures.same ∙ s2 in
    let p = err_from_is_err_and c.from_residual-in_err-room_rules.result
    c.from_residual-in_err-room_rules.ensures.1 in
    rw (p.1, p.2) (λ other.
    faulty_room_rules _ c.args.exams exam_lines same c.args.sections.now.lines c.next.new.self.lines
    c.next-2.new.self.lines _ _ c.in_ok-periods.ensures.found
    (rw s1 at c.in_ok-rooms.ensures.found) c.next-3.new.self.lines _
    (rw s2 at c.in_ok-period_rules.ensures.found) _
    (rw s3 at (c.in_err-room_rules.ensures.fault other)))

pub returns-in_err-weightings-clause-fault : goal.returns-in_err-weightings-clause-fault
returns-in_err-weightings-clause-fault c exam_lines same =
    let s1 = c.in_ok-periods.ensures.same in
    let s2 = c.in_ok-rooms.ensures.same ∙ s1 in
    let s3 = c.in_ok-period_rules.ensures.same ∙ s2 in
    let s4 = c.in_ok-room_rules.ensures.same ∙ s3 in
    let p = err_from_is_err_and c.from_residual-in_err-weightings.result
    c.from_residual-in_err-weightings.ensures.1 in
    rw (p.1, p.2) (λ other.
    faulty_weightings _ c.args.exams exam_lines same c.args.sections.now.lines c.next.new.self.lines
    c.next-2.new.self.lines _ _ c.in_ok-periods.ensures.found
    (rw s1 at c.in_ok-rooms.ensures.found) c.next-3.new.self.lines _
    (rw s2 at c.in_ok-period_rules.ensures.found) c.next-4.new.self.lines _
    (rw s3 at c.in_ok-room_rules.ensures.found) _
    (rw s4 at (c.in_err-weightings.ensures.fault other)))

pub returns-in_err-end-clause-fault : goal.returns-in_err-end-clause-fault
returns-in_err-end-clause-fault c exam_lines same =
    let s1 = c.in_ok-periods.ensures.same in
    let s2 = c.in_ok-rooms.ensures.same ∙ s1 in
    let s3 = c.in_ok-period_rules.ensures.same ∙ s2 in
    let s4 = c.in_ok-room_rules.ensures.same ∙ s3 in
    let p = err_from_is_err_and c.from_residual-in_err-end.result
    c.from_residual-in_err-end.ensures.1 in
    rw (p.1, p.2) (λ other.
    faulty_end _ c.args.exams exam_lines same c.args.sections.now.lines c.next.new.self.lines
    c.next-2.new.self.lines _ _ c.in_ok-periods.ensures.found
    (rw s1 at c.in_ok-rooms.ensures.found) c.next-3.new.self.lines _
    (rw s2 at c.in_ok-period_rules.ensures.found) c.next-4.new.self.lines _
    (rw s3 at c.in_ok-room_rules.ensures.found) c.next-5.new.self.lines _
    (rw s4 at c.in_ok-weightings.ensures.found) _ (sym c.in_err-end.ensures.exact))

pub returns-clause-found : goal.returns-clause-found
returns-clause-found c exam_lines same =
    let s1 = c.in_ok-periods.ensures.same in
    let s2 = c.in_ok-rooms.ensures.same ∙ s1 in
    let s3 = c.in_ok-period_rules.ensures.same ∙ s2 in
    let s4 = c.in_ok-room_rules.ensures.same ∙ s3 in
    all_sections _ c.args.exams exam_lines same c.args.sections.now.lines c.next.new.self.lines
    c.next-2.new.self.lines _ _ c.in_ok-periods.ensures.found
    (rw s1 at c.in_ok-rooms.ensures.found) c.next-3.new.self.lines _
    (rw s2 at c.in_ok-period_rules.ensures.found) c.next-4.new.self.lines _
    (rw s3 at c.in_ok-room_rules.ensures.found) c.next-5.new.self.lines _
    (rw s4 at c.in_ok-weightings.ensures.found) (sym c.in_ok-end.ensures.exact)
