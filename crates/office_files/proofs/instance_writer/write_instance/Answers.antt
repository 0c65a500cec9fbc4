use Rattle.std.proofs.Common.{◌≡◌, ◌∙◌, List, ℕ, Vec, Global, ap, sym, subst}
use Rattle.exam_lists.proofs.Appended.{appended}
use Rattle.office_files.specs.CanonicalText.{canonical_instance}
use Rattle.office_files.specs.InstanceText.{InstanceText, instance_in}
use Rattle.office_files.proofs.CanonicalInstance.{instance_spelled, instance_same}
use Rattle.office_files.proofs.instance_writer.write_instance.Goals as goal

pub returns-clause-text : goal.returns-clause-text
returns-clause-text c =
    ap (λ (v : Vec ℕ Global). v.items) c.into_bytes.ensures.value
    ∙ appended _ (appended _ (appended _ (appended _ (appended _
    (appended _ c.new-text.ensures.bytes c.in_ok-add_exams.ensures) c.in_ok-add_periods.ensures)
    c.in_ok-add_rooms.ensures) c.in_ok-add_period_rules.ensures) c.in_ok-add_room_rules.ensures)
    c.in_ok-add_weightings.ensures

pub returns-clause-spells : goal.returns-clause-spells
returns-clause-spells c =
    let I = c.args.instance.now in
    let E = c.args.enrolments.now in
    let text : c.into_bytes.result.items ≡ canonical_instance I E = returns-clause-text c in
    subst (λ (b : List ℕ). InstanceText b I E) (sym text)
    (instance_spelled I E c.lemma_limits.ensures c.lemma_order.ensures c.requires.fits)

pub returns-clause-same : goal.returns-clause-same
returns-clause-same c =
    let I = c.args.instance.now in
    let E = c.args.enrolments.now in
    let text : c.into_bytes.result.items ≡ canonical_instance I E = returns-clause-text c in
    ap instance_in text
    ∙ instance_same I E c.lemma_limits.ensures c.lemma_order.ensures c.requires.fits
