use Rattle.std.proofs.Common.{◌≡◌, inl, inr, ap, sym, subst, Ok, Err, refl}
use Rattle.office_model.specs.Batches.{batch_enrolled}
use Rattle.office_model.specs.Commands.{CommandResult}
use Rattle.office_model.specs.Office.{IsOffice, OfficeState}
use Rattle.office_model.specs.Step.{Outcome}
use Rattle.office_model.specs.declared.counts.Counts.{Counts}
use Rattle.office_model.proofs.OfficeLemmas.{Leaves, step_leaves}
use Rattle.office_enrolment.proofs.laws.step_leaves_an_office.Goals as goal

-- the office after a result is an office, if it is one for each result
each_leaves : (gives : CommandResult Counts)
    → ((counts : Counts) (new : OfficeState) → gives ≡ Ok (counts, new) → IsOffice new)
    → Leaves gives
each_leaves (Ok given) leaves = leaves given.0 given.1 refl
each_leaves (Err fault) leaves = tt

pub returns : goal.returns
returns c old new caller command answer is small steps =
    elim steps as (λ _. IsOffice new) [
      | inl stepped ↦ subst IsOffice (sym (ap (λ (o : Outcome). o.0) stepped))
          (step_leaves old caller command is small (λ number bytes few.
          each_leaves (batch_enrolled number bytes old) (λ counts after gives.
          c.batch_leaves_an_office.ensures number bytes old after counts few is gives)))
      | inr still ↦ subst IsOffice (sym still.0) is
    ]
