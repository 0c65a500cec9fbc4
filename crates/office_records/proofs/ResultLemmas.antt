-- The meaning of a result for rows that no office has.
use Rattle.std.proofs.Common.{◌≡◌, Result, Ok, Err, sym, ◌∙◌}
use Rattle.std.specs.Prelude.{IfErr}
use Rattle.std.specs.Result.{IsErrAnd}
use Rattle.office_records.specs.declared.fault.RecordFault.{RecordFault}
use Rattle.office_records.specs.declared.fault.RecordFault.TheVariants.{BadRows}

pub nothing_has : {T X : Type 0} (r : Result T RecordFault) (P : X → Type 0)
    → ((x : X) → P x → ⊥) → IfErr r (λ e. e ≡ BadRows → (x : X) → P x → ⊥)
nothing_has (Ok value) P none = tt
nothing_has (Err fault) P none = λ is. none

-- a fault that is passed on keeps its meaning
pub passed_on : {T : Type 0} (r : Result T RecordFault) (fault : RecordFault) (P : Type 0)
    → IsErrAnd r (λ e. e ≡ fault) → (fault ≡ BadRows → P) → IfErr r (λ e. e ≡ BadRows → P)
passed_on (Ok value) fault P same said = tt
passed_on (Err e) fault P same said = λ bad. said (sym same ∙ bad)
