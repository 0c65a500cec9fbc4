-- The effect of a batch's lines on the enrolments: they act in file order.
use Rattle.std.specs.Prelude.{◌+◌, Bool, not, nat_le, if◌then◌else◌, List, [], ◌∷◌, Result, Ok}
use Rattle.exam_terms.specs.Refusing.{◌>>=◌, unless}
use Rattle.exam_terms.specs.declared.limits.TheConstants.{MAX_PAIRS}
use Rattle.exam_model.specs.declared.change.Change.{Change}
use Rattle.exam_model.specs.Changes.{with_pair, without_pair}
use Rattle.exam_model.specs.Enrolments.{Enrolled, has, pair_count}
use Rattle.office_model.specs.declared.counts.Counts.{Counts}
use Rattle.office_model.specs.declared.fault.StoreFault.{StoreFault}
use Rattle.office_model.specs.declared.fault.StoreFault.TheVariants.{TooMany}

-- whether a line adds a missing pair, or drops an existing one
abbrev pub has_effect : Change → Enrolled → Bool
has_effect change E =
    if change.add then not (has E change.student change.exam)
    else has E change.student change.exam

-- the enrolments after a line
abbrev pub after_change : Change → Enrolled → Enrolled
after_change change E =
    if change.add then with_pair E change.student change.exam
    else without_pair E change.student change.exam

-- the enrolments after all lines, in file order
abbrev pub after_changes : List Change → Enrolled → Enrolled
after_changes [] E = E
after_changes (change ∷ changes) E = after_changes changes (after_change change E)

-- one more add, drop or neither
abbrev pub counts_after : Change → Enrolled → Counts → Counts
counts_after change E n =
    if has_effect change E then
    (if change.add then record n { added = n.added + 1 }
    else record n { dropped = n.dropped + 1 })
    else record n { unchanged = n.unchanged + 1 }

-- nothing counted yet
abbrev pub no_counts : Counts
no_counts = record { added = 0; dropped = 0; unchanged = 0 }

-- the lines in file order, refused if the pairs exceed the limit at any of them
abbrev pub enrolment_result : List Change → Enrolled → Counts
    → Result (Counts × Enrolled) StoreFault
enrolment_result [] E n = Ok (n, E)
enrolment_result (change ∷ changes) E n = do
  _ ← unless (nat_le (pair_count (after_change change E)) MAX_PAIRS) TooMany
  enrolment_result changes (after_change change E) (counts_after change E n)
