use Rattle.office_check.proofs.CompareFacts.{comparison_told}
use Rattle.office_check.proofs.comparing.comparison.Goals as goal

pub returns : goal.returns
returns c =
    comparison_told c.args.instance.now c.args.enrolments.now c.args.before.now c.args.after.now
    c.in_ok-parts.parts c.in_ok-new_parts.new_parts _ _ _ _ c.new-text.ensures.bytes
    c.in_ok-add_moved.ensures c.in_ok-parts.ensures c.in_ok-new_parts.ensures
    c.in_ok-add_parts.ensures c.in_ok-add_breaches.ensures
