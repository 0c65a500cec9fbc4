use Rattle.std.specs.Prelude.{◌≡◌, drop}
use Rattle.std.specs.List.{list_any}
use Rattle.office_enrolment.specs.AfterBatch.{has_effect_on}
use Rattle.office_enrolment.proofs.batch.any_acts.Given as goal

abbrev pub invariant-lines : goal.invariant-lines
invariant-lines l = record {
  idle : list_any (has_effect_on l.enrolments) l.changes
      ≡ list_any (has_effect_on l.enrolments) (drop l.change-index l.changes);
}
