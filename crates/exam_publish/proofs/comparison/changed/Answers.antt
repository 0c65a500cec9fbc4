use Rattle.std.proofs.Common.{◌∙◌, ap}
use Rattle.exam_model.specs.Enrolments.{has_number}
use Rattle.exam_publish.specs.Changed.{sorted_numbers}
use Rattle.exam_publish.proofs.ListLemmas.{ascends, has_ascending}
use Rattle.exam_publish.proofs.ChangedLemmas.{listed}
use Rattle.exam_publish.proofs.comparison.changed.Goals as goal

pub returns-clause-members : goal.returns-clause-members
returns-clause-members c s =
    ap (λ xs. has_number xs s) c.in_order.ensures ∙ has_ascending c.in_ok-found.found.items s
    ∙ c.in_ok-found.ensures s

pub returns-clause-ascending : goal.returns-clause-ascending
returns-clause-ascending c = rw c.in_order.ensures (ascends c.in_ok-found.found.items)

pub returns-clause-listed : goal.returns-clause-listed
returns-clause-listed c =
    c.in_order.ensures
    ∙ listed c.args.old.now c.args.new.now (sorted_numbers c.in_ok-found.found.items)
    (ascends c.in_ok-found.found.items)
    (λ s. has_ascending c.in_ok-found.found.items s ∙ c.in_ok-found.ensures s)
