use Rattle.std.proofs.Common.{◌∙◌, subst, sym}
use Rattle.exam_publish.specs.Rows.{RowsInOrder}
use Rattle.office_records.proofs.RepublicationLemmas.{timed_in_order}
use Rattle.office_records.proofs.retimed.retimed_students.Goals as goal

pub changed-requires : goal.changed-requires
changed-requires c = record {
  old_in_order = subst RowsInOrder (sym (c.deref.ensures.value ∙ c.in_ok-before.ensures))
      (timed_in_order c.args.old.now c.requires.old_in_order);
  new_in_order = subst RowsInOrder (sym (c.deref-2.ensures.value ∙ c.in_ok-after.ensures))
      (timed_in_order c.args.new.now c.requires.new_in_order);
}
