use Rattle.std.proofs.Common.{◌∙◌, ap, sym}
use Rattle.sqlite.specs.Effect.{Database}
use Rattle.sqlite.specs.Held.{state}
use Rattle.office_http.proofs.CrashLemmas.{found_after}
use Rattle.office_http.proofs.laws.done_messages_stay.Goals as goal

pub returns : goal.returns
returns g c visits old new opened office run committed live kept clean found =
    found_after g.S.Store
    (λ h trees all may. g.met.S.Store.settled h.store trees all.0 may
    ∙ sym (ap (λ (db : Database). db.trees) all.1))
    visits old new office (state g.T.Store opened) run committed live kept clean found
