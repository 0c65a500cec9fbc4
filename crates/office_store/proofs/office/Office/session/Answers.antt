use Rattle.std.proofs.Common.{ap, refl, subst, ◌∙◌}
use Rattle.sqlite.specs.Held.{state}
use Rattle.office_model.specs.Commands.{session_shown}
use Rattle.office_store.specs.Running.{MatchesMemory}
use Rattle.office_store.proofs.RunLemmas.{session_returned, at_hand, nothing_kept}
use Rattle.office_store.proofs.office.Office.session.Goals as goal

pub returns-in-Some-clause-shown : goal.returns-in-Some-clause-shown
returns-in-Some-clause-shown g c clean opened office here =
    let s = state g.S.Store c.args.self.now in
    let m = c.self.inside.memory in
    let rest : MatchesMemory s m
    = subst (λ h. MatchesMemory (state g.S.Store h) m) c.self.view_is c.self.invariant.1 in
    let kept = at_hand s m office rest clean opened here in
    (office, session_returned office _ _ (kept.session ∙ c.in-Some.is), refl)

pub returns-in-None-clause-shown : goal.returns-in-None-clause-shown
returns-in-None-clause-shown g c clean opened office here =
    let s = state g.S.Store c.args.self.now in
    let m = c.self.inside.memory in
    let rest : MatchesMemory s m
    = subst (λ h. MatchesMemory (state g.S.Store h) m) c.self.view_is c.self.invariant.1 in
    let kept = at_hand s m office rest clean opened here in
    let none = nothing_kept office (kept.session ∙ c.in-None.is) in
    (ap session_shown none, refl)
