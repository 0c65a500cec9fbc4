use Rattle.std.proofs.Common.{Ok, refl, rules}
use Rattle.office_model.specs.DraftCommands.{draft_shown}
use Rattle.office_model.specs.declared.fault.StoreFault.TheVariants.{NoDraft}
use Rattle.office_store.proofs.CommandLemmas.{refuses, refuses_unloaded, shows}
use Rattle.office_store.proofs.StoredLemmas.{in_memory_shown, none_denied}
use Rattle.office_store.proofs.office.Office.draft.Goals as goal

pub returns-then-is_none-clause-runs : goal.returns-then-is_none-clause-runs
returns-then-is_none-clause-runs g c =
    refuses_unloaded c.self.view_is c.self.invariant.1 c.in_ok-check_open.ensures.leaves
    (draft_shown c.args.number) (search rules) refl

pub returns-in_default-clause-runs : goal.returns-in_default-clause-runs
returns-in_default-clause-runs g c =
    refuses c.self.view_is c.self.invariant.1 c.in_ok-check_open.ensures.leaves (draft_shown c.args.number)
    NoDraft (λ _. none_denied _ c.args.number c.if-is_none.ensures c.in_default.ensures.none
    (λ r none. rw none refl))

pub returns-clause-runs : goal.returns-clause-runs
returns-clause-runs g c =
    shows c.self.view_is c.self.invariant.1 c.in_ok-check_open.ensures.leaves (draft_shown c.args.number)
    (Ok (c.in_ok-timetable.timetable, c.in-Some.draft.now.parts))
    (in_memory_shown c.args.number c.in-Some.ensures.some c.in_ok-timetable.ensures.same)
