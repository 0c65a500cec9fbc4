use Rattle.std.proofs.Common.{◌∙◌, ap, sym}
use Rattle.sqlite.specs.Effect.{Database}
use Rattle.sqlite.specs.Held.{state}
use Rattle.office_store.proofs.CrashLemmas.{after_command, after_opening, before_is}
use Rattle.office_store.proofs.laws.crash_leaves_an_office.Goals as goal

pub returns-clause-kept : goal.returns-clause-kept
returns-clause-kept g c old opened committed live found =
    before_is g.S.Store old committed live
    (λ trees may. g.met.S.Store.settled old.store trees committed.0 may
    ∙ sym (ap (λ (db : Database). db.trees) committed.1))
    (state g.T.Store opened) found.sound found.may

pub returns-clause-change : goal.returns-clause-change
returns-clause-change g c command old new result opened office committed live kept leaves clean found =
    after_command g.S.Store old committed live
    (λ trees may. g.met.S.Store.settled old.store trees committed.0 may
    ∙ sym (ap (λ (db : Database). db.trees) committed.1))
    command new result (state g.T.Store opened) office kept leaves clean found

pub returns-clause-opening : goal.returns-clause-opening
returns-clause-opening g c old result opened office committed live there leaves clean found =
    after_opening g.S.Store old committed live
    (λ trees may. g.met.S.Store.settled old.store trees committed.0 may
    ∙ sym (ap (λ (db : Database). db.trees) committed.1))
    result (state g.T.Store opened) office there leaves clean found
