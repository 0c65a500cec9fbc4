use Rattle.std.proofs.Common.{Ok, None, Some, ◌∙◌}
use Rattle.office_store.specs.Publications.{publication_shown, plain}
use Rattle.office_store.proofs.CommandLemmas.{returns_value}
use Rattle.office_store.proofs.PublishedReadLemmas.{none_shown, published_shown}
use Rattle.office_store.proofs.office.Office.publication.Goals as goal

pub returns-in_default-clause-reads : goal.returns-in_default-clause-reads
returns-in_default-clause-reads g c =
    returns_value c.self.view_is c.self.invariant.1 c.in_ok-check_open.ensures.leaves publication_shown (Ok None)
    (λ k o kept is. none_shown is c.in_default.is)

pub returns-clause-reads : goal.returns-clause-reads
returns-clause-reads g c =
    returns_value c.self.view_is c.self.invariant.1 c.in_ok-check_open.ensures.leaves publication_shown
    (plain (Ok (Some (c.in_ok-timetable.timetable, c.in_ok-rows.rows))))
    (λ k o kept is. published_shown is c.in-Some.is c.in_ok-timetable.ensures.same
    (c.in_ok-rows.ensures.items ∙ c.deref.ensures.value))
