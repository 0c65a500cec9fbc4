use Rattle.std.proofs.Common.{◌∙◌}
use Rattle.exam_changes.specs.Gained.{gained}
use Rattle.office_check.proofs.CompareFacts.{breaches_told, gained_is}
use Rattle.office_check.proofs.comparing.add_breaches.Goals as goal

-- those gained, and then those lost
pub returns : goal.returns
returns c =
    let I = c.args.instance.now in
    let E = c.args.enrolments.now in
    let A = c.args.before.now in
    let B = c.args.after.now in
    breaches_told (gained I E A B) (gained I E B A) c.deref-5.result.now c.deref-6.result.now _ _ _ _ _ _ _
    c.in_ok-push_str.ensures.bytes c.in_ok-push_str-2.ensures.bytes
    c.in_ok-push_str-3.ensures.bytes c.in_ok-push_str-4.ensures.bytes
    (c.as_str.ensures.value ∙ c.in_ok-violation_report.ensures)
    (c.deref-5.ensures.value ∙ gained_is I E A B _ _ _ _ c.in_ok-found.ensures.members
    c.deref.ensures.value (c.deref-2.ensures.value ∙ c.in_ok-new_found.ensures.listed)
    c.in_ok-gained.ensures)
    (c.as_str-2.ensures.value ∙ c.in_ok-violation_report-2.ensures)
    (c.deref-6.ensures.value ∙ gained_is I E B A _ _ _ _ c.in_ok-new_found.ensures.members
    c.deref-3.ensures.value (c.deref-4.ensures.value ∙ c.in_ok-found.ensures.listed)
    c.in_ok-lost.ensures)
